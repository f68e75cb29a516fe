use Rattle.std.specs.List.{filter}
use Rattle.std.proofs.Common.{sym, ap, subst, ◌∙◌}
use Rattle.gridded.specs.Grids.{IsGridded}
use Rattle.gridded.specs.Parts.{closed_up, IsClosedUp}
use Rattle.gridded.specs.CellSets.{is_among}
use Rattle.gridded.proofs.ClosedUp.{IsClosedUp-restricted}
use Rattle.gridded.proofs.PartPlaces.{fields_as_many, fields_short, room_to_keep, kept_in, kept_out, kept_all}
use Rattle.gridded.proofs.smaller.restrict.Goals as goal
use Rattle.gridded.proofs.smaller.restrict.Goals.{then-contains, else-contains}

pub push-requires : goal.push-requires
push-requires c =
    room_to_keep (is_among c.args.set) c.loop-place.kept c.letters-letters.result.now c.cells-cells.result.now c.loop-place.place c.loop-place.invariant c.loop-place-test.true
    (fields_as_many c.args.g.now _ _ c.letters-letters.ensures.value c.cells-cells.ensures.value) (fields_short c.args.g.now c.letters-letters.result.now c.letters-letters.ensures.value c.letters-letters.ensures.short)

pub loop-place-preserved : goal.loop-place-preserved
loop-place-preserved c =
    let as_many = fields_as_many c.args.g.now _ _ c.letters-letters.ensures.value c.cells-cells.ensures.value in
    elim c.if-contains.branch [
      | then-contains w ↦ w.kept-is ∙ w.push.ensures ∙ kept_in (is_among c.args.set) c.loop-place.kept c.letters-letters.result.now c.cells-cells.result.now c.loop-place.place c.loop-place.invariant c.loop-place-test.true as_many (sym c.contains.ensures ∙ w.if-contains.true)
      | else-contains w ↦ w.kept-is ∙ kept_out (is_among c.args.set) c.loop-place.kept c.letters-letters.result.now c.cells-cells.result.now c.loop-place.place c.loop-place.invariant c.loop-place-test.true as_many (sym c.contains.ensures ∙ w.if-contains.false)
    ]

pub close_up-requires : goal.close_up-requires
close_up-requires c =
    let kept = kept_all (is_among c.args.set) c.args.g.now c.loop-place.kept c.letters-letters.result.now c.cells-cells.result.now c.loop-place.place c.loop-place.invariant c.letters-letters.ensures.value c.cells-cells.ensures.value c.loop-place-test.false in
    subst (λ part. IsGridded (closed_up part)) (sym kept) (IsClosedUp-restricted (is_among c.args.set) c.args.g.now c.letters-letters.ensures.gridded).gridded

pub returns : goal.returns
returns c =
    let kept = kept_all (is_among c.args.set) c.args.g.now c.loop-place.kept c.letters-letters.result.now c.cells-cells.result.now c.loop-place.place c.loop-place.invariant c.letters-letters.ensures.value c.cells-cells.ensures.value c.loop-place-test.false in
    let value = c.close_up.ensures ∙ ap (λ part. closed_up part) kept in
    record { value = value; closed_up = subst (λ part. IsClosedUp (filter (λ p. is_among c.args.set p.cell) c.args.g.now) part) (sym value) (IsClosedUp-restricted (is_among c.args.set) c.args.g.now c.letters-letters.ensures.gridded) }
