-- Each tiling has exactly one trace, which ends in a normal tiling.
use Rattle.std.specs.Prelude.{◌≡◌, ◌↔◌, ℕ, true, zero, suc, List, [], ◌∷◌, Some, None}
use Rattle.tiling_core.specs.Tiles.{Tiles, IsTiling}
use Rattle.steps.specs.declared.Step.{Step}
use Rattle.steps.specs.Steps.{step_applies, step_result}
use Rattle.steps.specs.Traces.{first_step, replay, IsTrace, IsNormal}
use Rattle.steps.specs.Kept.{KeepsMembers, rename_all}
use Rattle.normal_form.specs.Measure.{size}

-- the first steps of a trace, at most n
abbrev pub trace_within : ℕ → Tiles → List Step
trace_within zero t = []
trace_within (suc n) t = elim (first_step t) [ None ↦ [] | Some s ↦ s ∷ trace_within n (step_result s t) ]

-- the trace: a step makes the size smaller, so there are no more steps than that
unfoldable pub trace : Tiles → List Step
trace t = trace_within (size t) t

abbrev pub TraceIsTotal : Type 0
TraceIsTotal = (t : Tiles) → IsTiling t → IsTrace t (trace t)

abbrev pub TraceIsFunctional : Type 0
TraceIsFunctional = (t : Tiles) (one other : List Step) → IsTrace t one → IsTrace t other → one ≡ other

-- no step is first exactly where none applies, also none at a cell or line outside the grid
abbrev pub NormalWhereNoneIsFirst : Type 0
NormalWhereNoneIsFirst = (t : Tiles) → IsTiling t → (first_step t ≡ None) ↔ IsNormal t

-- ---- tilings and their members along steps
-- what a step that applies makes of a tiling is a tiling
abbrev pub StepsKeepTilings : Type 0
StepsKeepTilings = (s : Step) (t : Tiles) → IsTiling t → step_applies s t ≡ true → IsTiling (step_result s t)

abbrev pub ReplaysKeepTilings : Type 0
ReplaysKeepTilings = (steps : List Step) (t u : Tiles) → IsTiling t → replay t steps ≡ Some u → IsTiling u

-- a replay keeps the members one to one, with their lengths and so their counts
abbrev pub ReplaysKeepMembers : Type 0
ReplaysKeepMembers = (steps : List Step) (t u : Tiles) → IsTiling t → replay t steps ≡ Some u → KeepsMembers (rename_all steps) t u

-- steps lead to a tiling to which none applies
pub record IsNormalEnd (t : Tiles) (steps : List Step) : Type 0 where
  pub end : Tiles
  pub replayed : replay t steps ≡ Some end
  pub normal : IsNormal end

abbrev pub TracesEndNormal : Type 0
TracesEndNormal = (t : Tiles) (steps : List Step) → IsTiling t → IsTrace t steps → IsNormalEnd t steps
