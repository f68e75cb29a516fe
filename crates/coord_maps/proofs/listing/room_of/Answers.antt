use Rattle.std.proofs.Common.{◌≡◌, ◌<◌, ◌≤◌, ◌+◌, ◌∙◌, sym, ap, length, get_or, arith}
use Rattle.std.specs.Prelude.{◌&&◌, nat_le}
use Rattle.std.proofs.lemmas.List.{length-map}
use Rattle.gridded.specs.Grids.{Point, corner, letter_of}
use Rattle.gridded.specs.Orders.{letters_of}
use Rattle.coord_maps.specs.LineMaps.{first_line, parts_of}
use Rattle.coord_maps.specs.Preimages.{may_come, placed_points, point_at}
use Rattle.gridded.proofs.Holding.{is_true}
use Rattle.coord_maps.proofs.Runs.{some_part}
use Rattle.coord_maps.proofs.Placed.{letter_at, cell_at_place, letters_differ, room-below, room-above}
use Rattle.coord_maps.proofs.listing.room_of.Goals as goal
use Rattle.coord_maps.proofs.listing.room_of.Goals.{then-letters-place, else-letters-place}

pub loop-place-preserved : goal.loop-place-preserved
loop-place-preserved c =
    let within : c.loop-place.place < length c.args.g.now = omega (arith, c.loop-place-test.true, c.requires.within) in
    let place : c.loop-place.place < length c.args.cells.now = omega (arith, within, c.letters-letters.ensures.short) in
    let apart = letters_differ (letters_of c.args.g.now) c.loop-place.place c.args.placed (is_true _ c.letters-letters.ensures.gridded.distinct) c.loop-place-test.true (omega (arith, c.requires.within, length-map c.args.g.now letter_of)) in
    record {
      left_in = omega (arith, c.max-left.ensures, c.loop-place.invariant.left_in);
      low_in = elim c.if-letters-place.branch [
        | then-letters-place w ↦ omega (arith, w.low-is, w.max-low.ensures, c.loop-place.invariant.low_in)
        | else-letters-place w ↦ omega (arith, w.low-is, c.loop-place.invariant.low_in)
      ];
      top_in = elim c.if-letters-place.branch [
        | then-letters-place w ↦ omega (arith, w.top-is, c.loop-place.invariant.top_in)
        | else-letters-place w ↦ omega (arith, w.top-is, w.min-top.ensures, c.loop-place.invariant.top_in)
      ];
      told = λ x y a b d. elim c.if-letters-place.branch [
        | then-letters-place w ↦
            room-below c.args.g.now c.args.cells.now c.loop-place.place _ (get_or (letters_of c.args.g.now) c.args.placed 0) x y c.loop-place.left c.loop-place.low c.loop-place.top within place (rw c.letters-letters.ensures.value at w.if-letters-place.true) (c.loop-place.invariant.told x y a b d)
            ∙ sym (λ i. nat_le (c.max-left.ensures i) x && (nat_le ((w.low-is ∙ w.max-low.ensures) i) y && nat_le y (w.top-is i)))
        | else-letters-place w ↦
            let no_lower : get_or (letters_of c.args.g.now) c.args.placed 0 ≤ get_or (letters_of c.args.g.now) c.loop-place.place 0 = rw c.letters-letters.ensures.value at w.if-letters-place.false in
            room-above c.args.g.now c.args.cells.now c.loop-place.place _ (get_or (letters_of c.args.g.now) c.args.placed 0) x y c.loop-place.left c.loop-place.low c.loop-place.top within place (omega (arith, no_lower, apart)) (c.loop-place.invariant.told x y a b d)
            ∙ sym (λ i. nat_le (c.max-left.ensures i) x && (nat_le (w.low-is i) y && nat_le y ((w.top-is ∙ w.min-top.ensures) i)))
      ];
    }

pub returns : goal.returns
returns c =
    let within : c.args.placed < length c.args.g.now = c.requires.within in
    let own = ap (λ cells. get_or cells c.args.placed corner) c.cells.ensures.value ∙ cell_at_place c.args.g.now c.args.placed corner within in
    let left_is = c.first_line-left.ensures ∙ ap (λ d. first_line c.args.map.now.columns d.x) own in
    let low_is = c.first_line-low.ensures ∙ ap (λ d. first_line c.args.map.now.rows d.y) own in
    let right_is = c.end_line.ensures.end ∙ ap (λ d. first_line c.args.map.now.columns d.x + parts_of c.args.map.now.columns d.x) own in
    let top_is = c.end_line-top.ensures.end ∙ ap (λ d. first_line c.args.map.now.rows d.y + parts_of c.args.map.now.rows d.y) own in
    let some = some_part c.args.map.now.rows (point_at c.args.g.now c.args.placed).cell.y c.kept.ensures.rows in
    let same : c.loop-place.place ≡ c.args.placed = omega (arith, c.loop-place-test.false, c.loop-place.auto.place-end) in
    record {
      left_in = omega (arith, left_is, c.loop-place.invariant.left_in);
      right_is = right_is;
      low_in = omega (arith, low_is, c.loop-place.invariant.low_in);
      top_in = omega (arith, top_is, c.loop-place.invariant.top_in, some);
      few = omega (arith, c.end_line-top.ensures.few, c.loop-place.invariant.top_in);
      narrow = c.end_line.ensures.few;
      told = λ x y a b d.
          (λ i. may_come (placed_points c.args.g.now c.args.cells.now (sym same i)) (let q : Point = record { letter = sym (letter_at c.args.g.now c.args.placed within) i; cell = record { x = x; y = y } } in q))
          ∙ c.loop-place.invariant.told x y (omega (arith, left_is, a)) (omega (arith, low_is, b)) (omega (arith, top_is, d));
    }
