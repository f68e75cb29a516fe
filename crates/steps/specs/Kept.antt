-- What a step keeps: the members, one to one up to the renaming of cells, with their lengths.
use Rattle.std.specs.Prelude.{◌≡◌, ℕ, true, List, [], ◌∷◌}
use Rattle.gridded.specs.Grids.{Point}
use Rattle.tiling_core.specs.Tiles.{Tiles, IsTiling, count}
use Rattle.tiling_core.specs.Carried.{MemberOf}
use Rattle.steps.specs.declared.step.Step.{Step}
use Rattle.steps.specs.Steps.{step_applies, step_result, rename}

-- h is the renaming of exactly one member of t, which is as long
pub record IsRenamedOnce (renaming : List Point → List Point) (t : Tiles) (n : ℕ) (h : List Point) : Type 0 where
  pub source : List Point
  pub member : MemberOf t n source
  pub renamed : renaming source ≡ h
  pub only : (g : List Point) → MemberOf t n g → renaming g ≡ h → g ≡ source

-- each member of t becomes one of u, and each member of u comes from exactly one of t
pub record KeepsMembers (renaming : List Point → List Point) (t u : Tiles) : Type 0 where
  pub carried : (n : ℕ) (g : List Point) → MemberOf t n g → MemberOf u n (renaming g)
  pub sources : (n : ℕ) (h : List Point) → MemberOf u n h → IsRenamedOnce renaming t n h
  pub counts : (n : ℕ) → count u n ≡ count t n

abbrev pub StepsKeepMembers : Type 0
StepsKeepMembers = (s : Step) (t : Tiles) → IsTiling t → step_applies s t ≡ true → KeepsMembers (rename s) t (step_result s t)

-- what a member becomes by a trace
abbrev pub rename_all : List Step → List Point → List Point
rename_all [] g = g
rename_all (s ∷ trace) g = rename_all trace (rename s g)
