use Rattle.std.proofs.Common.{refl, arith}
use Rattle.steps.proofs.OnLine.{all_forbidden}
use Rattle.steps.proofs.line_step.is_inactive.Goals as goal

pub returns : goal.returns
returns c =
    let across = c.cells_across-place-end.ensures.value in
    let past = c.loop-place-test.false in
    rw (all_forbidden c.args.axis c.args.line c.args.tiling.now (λ k l. c.loop-place.invariant k (omega arith))) refl
