use Rattle.std.specs.List.{remove}
use Rattle.std.proofs.Common.{◌≡◌, ◌++◌, length, take, sym, ap, subst, ◌∙◌, arith}
use Rattle.std.proofs.lemmas.List.{length-map}
use Rattle.gridded.specs.Grids.{IsGridded, points, letter_of}
use Rattle.gridded.specs.Parts.{closed_up, IsClosedUp}
use Rattle.gridded.proofs.ClosedUp.{IsClosedUp-without_point}
use Rattle.gridded.proofs.PartPlaces.{fields_as_many, room_for_rest, both_sides}
use Rattle.gridded.proofs.smaller.without.Goals as goal

pub extend-requires-2-clause-room : goal.extend-requires-2-clause-room
extend-requires-2-clause-room c =
    let left = c.extend.ensures ∙ ap (λ g. g ++ points (take c.args.index c.letters-letters.result.now) (take c.args.index c.cells-cells.result.now)) c.none-kept.ensures in
    let size : length c.letters-letters.result.now ≡ length c.args.g.now = ap (λ ls. length ls) c.letters-letters.ensures.value ∙ length-map c.args.g.now letter_of in
    room_for_rest c.letters-letters.result.now c.cells-cells.result.now c.args.index c.extend.new.self (fields_as_many c.args.g.now _ _ c.letters-letters.ensures.value c.cells-cells.ensures.value)
    (omega (arith, size, c.letters-letters.ensures.short)) (omega (arith, size, c.requires)) left

pub close_up-requires : goal.close_up-requires
close_up-requires c =
    let left = c.extend.ensures ∙ ap (λ g. g ++ points (take c.args.index c.letters-letters.result.now) (take c.args.index c.cells-cells.result.now)) c.none-kept.ensures in
    let kept = both_sides c.args.g.now c.letters-letters.result.now c.cells-cells.result.now c.args.index c.extend.new.self c.extend-2.new.self c.letters-letters.ensures.value c.cells-cells.ensures.value left c.extend-2.ensures in
    subst (λ part. IsGridded (closed_up part)) (sym kept) (IsClosedUp-without_point c.args.g.now c.args.index c.letters-letters.ensures.gridded).gridded

pub returns : goal.returns
returns c =
    let left = c.extend.ensures ∙ ap (λ g. g ++ points (take c.args.index c.letters-letters.result.now) (take c.args.index c.cells-cells.result.now)) c.none-kept.ensures in
    let kept = both_sides c.args.g.now c.letters-letters.result.now c.cells-cells.result.now c.args.index c.extend.new.self c.extend-2.new.self c.letters-letters.ensures.value c.cells-cells.ensures.value left c.extend-2.ensures in
    let value = c.close_up.ensures ∙ ap (λ part. closed_up part) kept in
    record { value = value; closed_up = subst (λ rest. IsClosedUp (remove c.args.g.now c.args.index) rest) (sym value) (IsClosedUp-without_point c.args.g.now c.args.index c.letters-letters.ensures.gridded) }
