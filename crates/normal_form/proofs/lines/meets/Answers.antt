use Rattle.std.proofs.Common.{◌≡◌, false, ap, sym, ◌∙◌, arith}
use borrow.Author.Count.{below_more}
use Rattle.gridded.specs.declared.cell.Cell.{Cell}
use Rattle.gridded.specs.Axes.{with_line}
use Rattle.gridded.specs.CellSets.{is_among}
use Rattle.normal_form.proofs.UsedLines.{line_fits, none_on, one_on}
use Rattle.normal_form.proofs.lines.meets.Goals as goal

pub has-requires-clause-left : goal.has-requires-clause-left
has-requires-clause-left c = rw c.with_line.ensures (line_fits c.args.axis c.args.line c.loop-place.place c.requires c.loop-place-test.true).0

pub has-requires-clause-low : goal.has-requires-clause-low
has-requires-clause-low c = rw c.with_line.ensures (line_fits c.args.axis c.args.line c.loop-place.place c.requires c.loop-place-test.true).1

pub loop-place-preserved : goal.loop-place-preserved
loop-place-preserved c =
    below_more (λ k. is_among c.args.set (with_line c.args.axis c.args.line (record { x = k; y = k })) ≡ false) c.loop-place.place c.loop-place.invariant
    (ap (λ (d : Cell). is_among c.args.set d) (sym c.with_line.ensures) ∙ sym c.has.ensures.tested ∙ c.if-has.false)

pub returns-then-has : goal.returns-then-has
returns-then-has c =
    one_on c.args.axis c.args.line c.loop-place.place c.args.set (ap (λ (d : Cell). is_among c.args.set d) (sym c.with_line.ensures) ∙ sym c.has.ensures.tested ∙ c.if-has.true)

pub returns : goal.returns
returns c = none_on c.args.axis c.args.line c.args.set c.count.ensures.set (λ k l. c.loop-place.invariant k (omega arith))
