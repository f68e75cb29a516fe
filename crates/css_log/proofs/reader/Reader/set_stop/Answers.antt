use Rattle.std.proofs.Common.{rules}
use Rattle.css_log.proofs.ReaderSteps.{asks_as}
use Rattle.css_log.proofs.reader.Reader.set_stop.Goals as goal

pub store-requires : goal.store-requires
store-requires c = (search rules, search rules, asks_as _ _ _ _ c.self.invariant.0)
