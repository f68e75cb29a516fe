use Rattle.std.proofs.Common.{◌<◌, ◌≤◌, ℕ}
use Rattle.css_crew.specs.Waiting.{Waits}
use Rattle.css_crew.proofs.waiting.all_wait.Given as goal

abbrev pub invariant-loop-position : goal.invariant-loop-position
invariant-loop-position g l = (p : ℕ) → l.from ≤ p → p < l.position → Waits g.D.Domain.meaning l.ledger p
