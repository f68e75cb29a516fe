use Rattle.std.proofs.Common.{◌≡◌}
use Rattle.css_log.proofs.tests.read_many.Given as goal

abbrev pub invariant-loop : goal.invariant-loop
invariant-loop g l = l.reader.log ≡ l.log
