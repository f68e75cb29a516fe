use Rattle.std.proofs.Common.{◌≡◌, ◌<◌, ℕ}
use Rattle.std.specs.Prelude.{None, find}
use Rattle.steps.specs.Steps.{step_applies}
use Rattle.normal_form.proofs.Firsts.{cleanings_of}
use Rattle.normal_form.proofs.first.first_cell.Given as goal

abbrev pub invariant-loop-column : goal.invariant-loop-column
invariant-loop-column l = (k : ℕ) → k < l.column → find (λ s. step_applies s l.tiling) (cleanings_of l.tiling.height k) ≡ None
