use Rattle.css_prune.specs.Faults.{IsRankRight}
use Rattle.std.proofs.Common.{ℕ, ◌<◌}
use Rattle.css_prune.proofs.faults.first_wrong_slot.Given as goal

abbrev pub invariant-loop-slot : goal.invariant-loop-slot
invariant-loop-slot g l = (s : ℕ) → s < l.slot → IsRankRight g.D.Domain.meaning l.entries l.entry s
