-- Traces: steps that apply one after the other.
use Rattle.std.specs.Prelude.{◌≡◌, false, List, [], ◌∷◌, ◌++◌, map, Option, Some, None, find, if◌then◌else◌}
use Rattle.std.specs.List.{range_with_len}
use Rattle.gridded.specs.Grids.{cells_in}
use Rattle.tiling_core.specs.Tiles.{Tiles}
use Rattle.steps.specs.declared.step.Step.{Step}
use Rattle.steps.specs.declared.step.Step.TheVariants.{Min, Clean, Lists, Column, Row, Void}
use Rattle.steps.specs.Steps.{step_applies, step_result}

-- the steps in the order in which they are tried
abbrev pub steps_of : Tiles → List Step
steps_of t =
    Void ∷ Min ∷ map (λ c. Clean c) (cells_in t.width t.height) ++ Lists ∷ map (λ x. Column x) (range_with_len 0 t.width) ++ map (λ y. Row y) (range_with_len 0 t.height)

abbrev pub first_step : Tiles → Option Step
first_step t = find (λ s. step_applies s t) (steps_of t)

-- no step applies
abbrev pub IsNormal : Tiles → Type 0
IsNormal t = (s : Step) → step_applies s t ≡ false

-- the steps one after the other, where each applies
abbrev pub replay : Tiles → List Step → Option Tiles
replay t [] = Some t
replay t (s ∷ trace) = if step_applies s t then replay (step_result s t) trace else None

-- each step is the first that applies, and none applies at the end
pub data IsTrace : Tiles → List Step → Type 0 where
  ended : {t : Tiles} → first_step t ≡ None → IsTrace t []
  then_step : {t : Tiles} {s : Step} {trace : List Step} → first_step t ≡ Some s → IsTrace (step_result s t) trace → IsTrace t (s ∷ trace)
