use Rattle.spec_checker.proofs.Counted.{counts_by_rules}
use Rattle.spec_checker.proofs.law.counts_are_by_rules.Goals as goal

pub returns : goal.returns
returns c = counts_by_rules c.counts_are_determined.ensures.determined c.counts_are_determined.ensures.classes
