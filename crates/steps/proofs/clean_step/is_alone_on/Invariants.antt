use Rattle.std.proofs.Common.{◌≡◌, ◌<◌, ℕ, false}
use Rattle.steps.proofs.Alone.{is_open_at}
use Rattle.steps.proofs.clean_step.is_alone_on.Given as goal

abbrev pub invariant-loop-place : goal.invariant-loop-place
invariant-loop-place l = (k : ℕ) → k < l.place → is_open_at l.axis l.cell l.tiling k ≡ false
