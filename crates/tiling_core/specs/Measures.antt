-- Whether a tiling's requirements ask for a point, and for how many points at most.
use Rattle.std.specs.Prelude.{ℕ, Bool, true, false, not, List, [], ◌∷◌, length, fold, sum_by, max}
use Rattle.std.specs.List.{list_any}
use Rattle.gridded.specs.Grids.{Point}
use Rattle.tiling_core.specs.Tiles.{Tiles}
use Rattle.lists.specs.Members.{IsIn}

-- some requirement list has no empty pattern, so that each member has a point
pub record Positive (t : Tiles) : Type 0 where
  pub patterns : List (List Point)
  pub listed : IsIn patterns t.requirements
  pub none_empty : ¬ (IsIn [] patterns)

abbrev pub is_empty : List Point → Bool
is_empty [] = true
is_empty (_ ∷ _) = false

abbrev pub is_positive : Tiles → Bool
is_positive t = list_any (λ patterns. not (list_any (λ p. is_empty p) patterns)) t.requirements

-- the length of the longest pattern, 0 where there is none
abbrev pub longest : List (List Point) → ℕ
longest patterns = fold (λ most p. max most (length p)) 0 patterns

-- the longest patterns of the lists together
abbrev pub weight : Tiles → ℕ
weight t = sum_by (λ patterns. longest patterns) t.requirements
