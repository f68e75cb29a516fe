use Rattle.std.proofs.Common.{◌∙◌, arith}
use Rattle.spec_text.proofs.ChildLines.{one_child_more}
use Rattle.spec_text.proofs.entry.put_child_lines.Goals as goal

pub loop-index-preserved : goal.loop-index-preserved
loop-index-preserved c = rw c.trace_at.ensures at c.in_ok-put.ensures ∙ one_child_more c.args.out.now.items c.loop-index.out.items c.args.children.now c.args.traces.now c.loop-index.index (omega (arith, c.loop-index-test.true)) c.loop-index.invariant
