use Rattle.std.proofs.Common.{◌≡◌, ◌*◌, length}
use Rattle.css_domain.specs.WholeRecords.{IsWhole}
use Rattle.css_log.proofs.tests.write_many.Given as goal

abbrev pub invariant-loop : goal.invariant-loop
invariant-loop l = (l.writer.log ≡ l.log) × IsWhole l.writer.list × (length l.writer.list ≡ 4 * l.counter)
