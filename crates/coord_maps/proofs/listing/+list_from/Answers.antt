use Rattle.std.proofs.Common.{rules, ◌≡◌, ◌<◌, ◌++◌, ◌+◌, ◌∙◌, sym, ap, length, drop, append-nil, arith}
use Rattle.std.specs.List.{filter}
use Rattle.std.proofs.lemmas.List.{length-map}
use Rattle.gridded.specs.CellSets.{is_among as has_cell}
use Rattle.gridded.specs.Grids.{letter_of}
use Rattle.coord_maps.specs.Preimages.{in_cell, in_column, put, placed_points, point_at, completions}
use Rattle.coord_maps.proofs.Placed.{placed_together, placed-put, consistent-push, rest_from}
use Rattle.coord_maps.proofs.Loops.{grown, in_cell-come, inside_room, column_listed, all_listed}
use Rattle.coord_maps.proofs.Barred.{stays_out, clear-push, none_in_cell}
use Rattle.coord_maps.proofs.listing.+list_from.Goals as goal

pub from_consistent-requires : goal.from_consistent-requires
from_consistent-requires t c =
    let all : c.args.placed ≡ length c.args.g.now = c.if-placed-letters.true ∙ ap (λ letters. length letters) c.letters-letters.ensures.value ∙ length-map c.args.g.now letter_of in
    rw c.letters-letters.ensures.value (placed_together c.args.g.now c.args.cells c.args.placed c.letters-letters.ensures.gridded all (omega (arith, c.letters-letters.ensures.short, all)) c.requires.consistent)

pub room_of-room-requires : goal.room_of-room-requires
room_of-room-requires t c =
    record { inside = c.requires.inside; within = omega (arith, c.if-placed-letters.false, ap (λ letters. length letters) c.letters-letters.ensures.value, length-map c.args.g.now letter_of, c.requires.within) }

pub has-requires : goal.has-requires
has-requires t c =
    let room = c.room_of-room.ensures in
    record { left = omega (arith, c.loop-x-test.true, room.narrow); low = omega (arith, c.loop-y-test.true, room.few) }

pub list_from-requires : goal.list_from-requires
list_from-requires t c =
    let within : c.args.placed < length c.args.g.now = omega (arith, c.if-placed-letters.false, ap (λ letters. length letters) c.letters-letters.ensures.value, length-map c.args.g.now letter_of, c.requires.within) in
    let place : c.args.placed < length c.args.cells = omega (arith, within, c.letters-letters.ensures.short) in
    let comes = inside_room c.args.map.now (placed_points c.args.g.now c.args.cells c.args.placed) (point_at c.args.g.now c.args.placed) (drop (c.args.placed + 1) c.args.g.now) c.room_of-room.result c.room_of-room.ensures c.loop-x.x c.loop-y.y c.loop-x.auto.x c.loop-y.auto.y c.loop-y-test.true in
    let next = placed-put c.args.g.now c.args.cells c.args.placed c.loop-x.x c.loop-y.y within place in
    (search rules, (c.requires.inside, (omega (arith, within), (rw next (consistent-push (placed_points c.args.g.now c.args.cells c.args.placed) _ c.requires.consistent comes), rw next (clear-push (has_cell c.args.barred) (placed_points c.args.g.now c.args.cells c.args.placed) (put (point_at c.args.g.now c.args.placed) c.loop-x.x c.loop-y.y) c.requires.clear (sym c.has.ensures.tested ∙ c.if-has.false))))))

pub loop-y-preserved-then-has : goal.loop-y-preserved-then-has
loop-y-preserved-then-has t c = record {
  listed = grown (stays_out c.args.barred) (in_cell c.args.map.now (placed_points c.args.g.now c.args.cells c.args.placed) (point_at c.args.g.now c.args.placed) (drop (c.args.placed + 1) c.args.g.now) c.loop-x.x)
      c.loop-x.found.items c.loop-y.found.items c.loop-y.found.items c.room_of-room.result.low c.loop-y.y c.loop-y.auto.y c.loop-y.invariant.listed
      (sym (append-nil c.loop-y.found.items) ∙ ap (λ r. c.loop-y.found.items ++ r) (sym (none_in_cell c.args.map.now c.args.barred (placed_points c.args.g.now c.args.cells c.args.placed) (point_at c.args.g.now c.args.placed) (drop (c.args.placed + 1) c.args.g.now) c.loop-x.x c.loop-y.y (sym c.has.ensures.tested ∙ c.if-has.true))));
  within = omega (arith, c.loop-y.auto.y, c.loop-y-test.true);
}

pub loop-y-preserved : goal.loop-y-preserved
loop-y-preserved t c =
    let within : c.args.placed < length c.args.g.now = omega (arith, c.if-placed-letters.false, ap (λ letters. length letters) c.letters-letters.ensures.value, length-map c.args.g.now letter_of, c.requires.within) in
    let place : c.args.placed < length c.args.cells = omega (arith, within, c.letters-letters.ensures.short) in
    let comes = inside_room c.args.map.now (placed_points c.args.g.now c.args.cells c.args.placed) (point_at c.args.g.now c.args.placed) (drop (c.args.placed + 1) c.args.g.now) c.room_of-room.result c.room_of-room.ensures c.loop-x.x c.loop-y.y c.loop-x.auto.x c.loop-y.auto.y c.loop-y-test.true in
    record {
      listed = grown (stays_out c.args.barred) (in_cell c.args.map.now (placed_points c.args.g.now c.args.cells c.args.placed) (point_at c.args.g.now c.args.placed) (drop (c.args.placed + 1) c.args.g.now) c.loop-x.x)
          c.loop-x.found.items c.loop-y.found.items c.list_from.new.found.items c.room_of-room.result.low c.loop-y.y c.loop-y.auto.y c.loop-y.invariant.listed
          (c.in_ok-list_from.ensures.added ∙ ap (λ r. c.loop-y.found.items ++ filter (stays_out c.args.barred) r) (sym (in_cell-come c.args.map.now c.args.g.now c.args.cells c.args.placed c.loop-x.x c.loop-y.y within place comes)));
      within = omega (arith, c.loop-y.auto.y, c.loop-y-test.true);
    }

pub loop-x-preserved : goal.loop-x-preserved
loop-x-preserved t c = record {
  listed = grown (stays_out c.args.barred) (in_column c.args.map.now (placed_points c.args.g.now c.args.cells c.args.placed) (point_at c.args.g.now c.args.placed) (drop (c.args.placed + 1) c.args.g.now))
      c.args.found.now.items c.loop-x.found.items c.loop-y.found.items c.room_of-room.result.left c.loop-x.x c.loop-x.auto.x c.loop-x.invariant.listed
      (c.loop-y.invariant.listed ∙ ap (λ r. c.loop-x.found.items ++ filter (stays_out c.args.barred) r) (column_listed c.args.map.now (placed_points c.args.g.now c.args.cells c.args.placed) (point_at c.args.g.now c.args.placed) (drop (c.args.placed + 1) c.args.g.now) c.room_of-room.result c.room_of-room.ensures c.loop-x.x c.loop-y.y c.loop-x.auto.x c.loop-y-test.false c.loop-y.invariant.within));
  within = omega (arith, c.loop-x.auto.x, c.loop-x-test.true);
}

pub returns-clause-added : goal.returns-clause-added
returns-clause-added t c =
    let within : c.args.placed < length c.args.g.now = omega (arith, c.if-placed-letters.false, ap (λ letters. length letters) c.letters-letters.ensures.value, length-map c.args.g.now letter_of, c.requires.within) in
    c.loop-x.invariant.listed
    ∙ ap (λ r. c.args.found.now.items ++ filter (stays_out c.args.barred) r) (all_listed c.args.map.now (placed_points c.args.g.now c.args.cells c.args.placed) (point_at c.args.g.now c.args.placed) (drop (c.args.placed + 1) c.args.g.now) c.room_of-room.result c.room_of-room.ensures c.loop-x.x c.loop-x-test.false c.loop-x.invariant.within
    ∙ ap (completions c.args.map.now (placed_points c.args.g.now c.args.cells c.args.placed)) (sym (rest_from c.args.g.now c.args.placed within)))
