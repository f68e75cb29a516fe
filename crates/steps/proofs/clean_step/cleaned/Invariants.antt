use Rattle.std.proofs.Common.{◌≡◌, ◌<◌, ℕ, false, get_or}
use Rattle.gridded.specs.Orders.{cell_eq}
use Rattle.steps.proofs.clean_step.cleaned.Given as goal

abbrev pub invariant-loop-place : goal.invariant-loop-place
invariant-loop-place l = (k : ℕ) → k < l.place → cell_eq l.cell (get_or l.cells k (record { x = 0; y = 0 })) ≡ false
