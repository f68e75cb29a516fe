use Rattle.std.proofs.Common.{◌<◌, ℕ}
use Rattle.css_crew.specs.Crews.{IsCompleteAt}
use Rattle.css_crew.proofs.finish.are_complete.Given as goal

abbrev pub invariant-loop-place : goal.invariant-loop-place
invariant-loop-place g l = (p : ℕ) → p < l.place → IsCompleteAt g.D.Domain.meaning l.ledger p
