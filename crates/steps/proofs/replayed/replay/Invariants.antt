use Rattle.std.proofs.Common.{◌≡◌, take}
use Rattle.std.specs.Prelude.{Some}
use Rattle.steps.specs.Traces.{replay}
use Rattle.steps.specs.Kept.{KeepsMembers, rename_all}
use Rattle.steps.proofs.replayed.replay.Given as goal

abbrev pub invariant-loop-at : goal.invariant-loop-at
invariant-loop-at l = record { made : replay l.fn.tiling (take l.at l.trace) ≡ Some l.reached; members : KeepsMembers (rename_all (take l.at l.trace)) l.fn.tiling l.reached }
