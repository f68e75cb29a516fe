-- What each step makes smaller.
use Rattle.std.specs.Prelude.{◌≡◌, ◌<◌, ◌+◌, ℕ, true, List, length, sum_by}
use Rattle.gridded.specs.Grids.{Point}
use Rattle.tiling_core.specs.Tiles.{Tiles, IsTiling}
use Rattle.steps.specs.declared.Step.{Step}
use Rattle.steps.specs.Steps.{step_applies, step_result}

-- a pattern counts its points and one
abbrev pub size_of_pattern : List Point → ℕ
size_of_pattern g = length g + 1

abbrev pub size_of_patterns : List (List Point) → ℕ
size_of_patterns patterns = sum_by (λ g. size_of_pattern g) patterns

-- a requirement list counts its patterns and two
abbrev pub size_of_list : List (List Point) → ℕ
size_of_list patterns = size_of_patterns patterns + 2

-- the sides, the obstructions and the requirement lists
abbrev pub size : Tiles → ℕ
size t = t.width + t.height + size_of_patterns t.obstructions + sum_by (λ patterns. size_of_list patterns) t.requirements

-- each step that applies makes the size smaller
abbrev pub StepsShrink : Type 0
StepsShrink = (s : Step) (t : Tiles) → IsTiling t → step_applies s t ≡ true → size (step_result s t) < size t
