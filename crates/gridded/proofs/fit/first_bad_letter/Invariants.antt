use Rattle.std.proofs.Common.{ℕ, ◌<◌}
use Rattle.gridded.specs.Refused.{IsGoodLetter}
use Rattle.gridded.proofs.fit.first_bad_letter.Given as goal

abbrev pub invariant-loop-place : goal.invariant-loop-place
invariant-loop-place l = (k : ℕ) → k < l.place → IsGoodLetter l.letters k
