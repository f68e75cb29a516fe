use Rattle.std.proofs.Common.{rules, sym}
use Rattle.css_log.proofs.WriterSteps.{publishes_as}
use Rattle.css_log.proofs.writer.Writer.publish.Goals as goal

pub store-requires : goal.store-requires
store-requires c = (search rules, search rules, publishes_as _ _ _ _ _ c.self.invariant.0 (sym c.self.invariant.1) (search rules))
