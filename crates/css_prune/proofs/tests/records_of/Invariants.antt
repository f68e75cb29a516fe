use Rattle.css_domain.specs.Records.{AreWithin}
use Rattle.css_prune.proofs.tests.records_of.Given as goal

abbrev pub invariant-loop-piece : goal.invariant-loop-piece
invariant-loop-piece l = AreWithin l.classes l.records.items
