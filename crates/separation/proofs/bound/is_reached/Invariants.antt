use Rattle.std.proofs.Common.{◌≡◌, ◌<◌, ℕ, false}
use Rattle.separation.proofs.Reaching.{binds_at}
use Rattle.separation.proofs.bound.is_reached.Given as goal

abbrev pub invariant-loop-place : goal.invariant-loop-place
invariant-loop-place l = (k : ℕ) → k < l.place → binds_at l.axis l.line l.tiling l.set l.other k ≡ false
