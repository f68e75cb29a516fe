use Rattle.std.proofs.Common.{ℕ, ◌<◌}
use Rattle.gridded.specs.Refused.{IsGoodColumn}
use Rattle.gridded.proofs.fit.first_bad_column.Given as goal

abbrev pub invariant-loop-place : goal.invariant-loop-place
invariant-loop-place l = (k : ℕ) → k < l.place → IsGoodColumn l.cells k
