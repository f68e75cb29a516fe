-- The children so far are the replays of their traces.
use Rattle.std.proofs.Common.{◌≡◌, ◌<◌, ℕ, length}
use Rattle.tile_rules.proofs.Checked.{LeadsAt}
use Rattle.tile_rules.proofs.check.lead_to.Given as goal

abbrev pub invariant-loop-tiling : goal.invariant-loop-tiling
invariant-loop-tiling l = record { counted : l.at ≡ length l.yielded; so_far : (k : ℕ) → k < length l.yielded → LeadsAt l.yielded l.traces l.children k }
