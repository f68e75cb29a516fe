-- When a step and a trace are refused.
use Rattle.std.specs.Prelude.{◌≡◌, ◌<◌, ℕ, false, List, length, take, slice_index_or, Some}
use Rattle.tiling_core.specs.Tiles.{Tiles}
use Rattle.steps.specs.declared.step.Step.{Step}
use Rattle.steps.specs.declared.step.Step.TheVariants.{Void}
use Rattle.steps.specs.declared.fault.StepFault.{StepFault}
use Rattle.steps.specs.declared.fault.StepFault.TheVariants as step
use Rattle.steps.specs.declared.fault.ReplayFault.{ReplayFault}
use Rattle.steps.specs.declared.fault.ReplayFault.TheVariants as trace
use Rattle.steps.specs.Steps.{step_applies}
use Rattle.steps.specs.Traces.{replay}

abbrev pub IsRefused : Step → Tiles → StepFault → Type 0
IsRefused s t step.NotApplicable = step_applies s t ≡ false
IsRefused s t step.Memory = Unit {0}

-- the steps before this place apply, one after the other, and the step there doesn't
pub record IsFirstRefused (t : Tiles) (steps : List Step) (at : ℕ) : Type 0 where
  pub within : at < length steps
  pub reached : Tiles
  pub before : replay t (take at steps) ≡ Some reached
  pub refused : step_applies (slice_index_or steps at Void) reached ≡ false

abbrev pub IsReplayRefused : Tiles → List Step → ReplayFault → Type 0
IsReplayRefused t steps (trace.NotApplicable at) = IsFirstRefused t steps at
IsReplayRefused t steps trace.Memory = Unit {0}
