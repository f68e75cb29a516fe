use Rattle.std.proofs.Common.{arith}
use Rattle.spec_checker.proofs.Marks.{marked_more}
use Rattle.spec_checker.proofs.named.mark.Goals as goal

pub loop-child-preserved : goal.loop-child-preserved
loop-child-preserved c =
    marked_more c.args.named.now c.loop-child.named c.args.children.now c.loop-child.child-index c.loop-child-test.true
    (omega (arith, c.requires c.loop-child.child-index 0 c.loop-child-test.true, c.loop-child.auto.named)) c.loop-child.invariant
