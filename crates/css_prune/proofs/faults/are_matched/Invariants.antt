use Rattle.css_prune.specs.Faults.{IsMatched}
use Rattle.std.proofs.Common.{ℕ, ◌<◌}
use Rattle.css_prune.proofs.faults.are_matched.Given as goal

abbrev pub invariant-loop-slot : goal.invariant-loop-slot
invariant-loop-slot g l = (s : ℕ) → s < l.slot → IsMatched g.D.Domain.meaning l.entries l.entry s
