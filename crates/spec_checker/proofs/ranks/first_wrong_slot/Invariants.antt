use Rattle.std.proofs.Common.{ℕ, ◌<◌}
use Rattle.css_prune.specs.Faults.{IsRankRight}
use Rattle.tile_rules.specs.Meaning.{tile_meaning}
use Rattle.spec_checker.proofs.ranks.first_wrong_slot.Given as goal

abbrev pub invariant-loop-slot : goal.invariant-loop-slot
invariant-loop-slot l = (s : ℕ) → s < l.slot → IsRankRight tile_meaning l.entries l.entry s
