use Rattle.std.proofs.Common.{rules}
use Rattle.css_log.proofs.WriterSteps.{finds_as}
use Rattle.css_log.proofs.writer.Writer.stopped.Goals as goal

pub load-requires : goal.load-requires
load-requires c = (search rules, search rules, finds_as _ _ _ _ c.self.invariant.0)
