use Rattle.std.proofs.Common.{rules}
use Rattle.outside.proofs.Moved.{grew_on}
use Rattle.outside.proofs.sinks.write_all.Goals as goal

pub loop-at-preserved : goal.loop-at-preserved
loop-at-preserved g c =
    record {
      within = search rules;
      grew = grew_on _ _ _ c.args.bytes.now c.loop-at.at c.in_ok-at.field-0 c.loop-at.invariant.grew c.in_ok-at.ensures.content;
      later = search rules;
    }
