use Rattle.std.proofs.Common.{◌≡◌, ◌≤◌, length, take}
use Rattle.steps.specs.Outside.{AreSingle}
use Rattle.steps.proofs.LeastSoFar.{staying}
use Rattle.steps.proofs.min_step.least.Given as goal

abbrev pub invariant-loop-g : goal.invariant-loop-g
invariant-loop-g l = record { stay : l.kept.items ≡ staying l.patterns (take l.g-index l.patterns); within : l.points ≤ length l.kept.items; single : AreSingle (take l.points l.kept.items) }
