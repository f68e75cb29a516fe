use Rattle.std.proofs.Common.{ℕ, ◌<◌}
use Rattle.gridded.specs.Refused.{IsGoodRow}
use Rattle.gridded.proofs.fit.first_bad_row.Given as goal

abbrev pub invariant-loop-place : goal.invariant-loop-place
invariant-loop-place l = (k : ℕ) → k < l.place → IsGoodRow l.letters l.cells k
