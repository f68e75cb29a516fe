use Rattle.std.proofs.Common.{sym, ◌∙◌, arith}
use Rattle.steps.specs.Steps.{step_applies}
use Rattle.normal_form.proofs.Firsts.{no_cell, some_cell}
use Rattle.normal_form.proofs.first.first_cell.Goals as goal

pub returns-in-Some : goal.returns-in-Some
returns-in-Some c =
    let t = c.args.tiling.now in
    sym (some_cell (λ s. step_applies s t) t.width t.height c.loop-column.column c.in-Some.step (omega (arith, c.loop-column-test.true, c.width-column-end.ensures.value)) c.loop-column.invariant (sym c.first_in_column.ensures ∙ c.in-Some.is))

pub returns : goal.returns
returns c =
    let t = c.args.tiling.now in
    sym (no_cell (λ s. step_applies s t) t.width t.height (λ k l. c.loop-column.invariant k (omega (arith, l, c.loop-column-test.false, c.width-column-end.ensures.value))))
