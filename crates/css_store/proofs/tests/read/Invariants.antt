use Rattle.std.proofs.Common.{◌≡◌}
use Rattle.css_store.proofs.tests.read.Given as goal

abbrev pub invariant-loop : goal.invariant-loop
invariant-loop g l = l.reader.log ≡ g.N.StoreName.log
