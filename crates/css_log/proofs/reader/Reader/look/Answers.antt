use Rattle.std.proofs.Common.{rules}
use Rattle.css_log.proofs.ReaderSteps.{counts_as}
use Rattle.css_log.proofs.reader.Reader.look.Goals as goal

pub load-count-requires : goal.load-count-requires
load-count-requires c = (search rules, search rules, counts_as _ _ _ _ c.self.invariant.0)
