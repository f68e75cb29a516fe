use Rattle.std.proofs.Common.{◌≡◌, ◌++◌, sym, ap, ◌∙◌, arith}
use Rattle.spec_text.proofs.SetCells.{in_column, one_column_more, all_columns}
use Rattle.spec_text.proofs.sets.cells_of.Goals as goal

pub loop-x-preserved : goal.loop-x-preserved
loop-x-preserved c = c.in_ok-add_column.ensures ∙ ap (λ before. before ++ in_column c.args.set c.loop-x.x 8) c.loop-x.invariant ∙ sym (one_column_more c.args.set c.loop-x.x)

pub returns : goal.returns
returns c =
    let last : c.loop-x.x ≡ 8 = omega arith in
    c.loop-x.invariant ∙ all_columns c.args.set c.loop-x.x last c.count.ensures.set
