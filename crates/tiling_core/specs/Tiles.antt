-- Tilings.
use Rattle.std.specs.Prelude.{◌≡◌, ◌<◌, ◌≤◌, ℕ, Bool, true, not, ◌&&◌, List, length, map, filter, All}
use Rattle.std.specs.List.{list_all, list_any}
use Rattle.std.specs.List.Sorted.{IsStrictlySortedBy}
use Rattle.std.specs.Cmp.Lexicographic.{slice_cmp}
use Rattle.gridded.specs.Grids.{Point, IsGridded, holds, gridded_of}
use Rattle.gridded.specs.Orders.{gridded_cmp}
use Rattle.gridded.specs.Places.{fits_grid}
use Rattle.sequences.specs.Ascending.{in_order}

-- what a tiling is
pub record Tiles : Type 0 where
  pub width : ℕ
  pub height : ℕ
  pub obstructions : List (List Point)
  pub requirements : List (List (List Point))

abbrev pub IsInGrid : ℕ → ℕ → List (List Point) → Type 0
IsInGrid w h patterns = All (λ g. fits_grid w h g ≡ true) patterns

abbrev pub AreGridded : List (List Point) → Type 0
AreGridded patterns = All (λ g. IsGridded g) patterns

-- a list that can be kept: the numbers of its items, and sums over it, fit 32 bits
abbrev pub IsKept : {X : Type 0} → List X → Type 0
IsKept xs = length xs < 268435456

-- what the type keeps
pub record IsTiling (t : Tiles) : Type 0 where
  pub narrow : t.width ≤ 8
  pub low : t.height ≤ 8
  pub obstructions_gridded : AreGridded t.obstructions
  pub requirements_gridded : All (λ patterns. AreGridded patterns) t.requirements
  pub obstructions_in : IsInGrid t.width t.height t.obstructions
  pub requirements_in : All (λ patterns. IsInGrid t.width t.height patterns) t.requirements
  pub obstructions_ascend : IsStrictlySortedBy gridded_cmp t.obstructions
  pub each_ascends : All (λ patterns. IsStrictlySortedBy gridded_cmp patterns) t.requirements
  pub requirements_ascend : IsStrictlySortedBy (slice_cmp gridded_cmp) t.requirements
  pub few_obstructions : IsKept t.obstructions
  pub few_each : All (λ patterns. IsKept patterns) t.requirements
  pub few_requirements : IsKept t.requirements

-- the tiling of these patterns, which are put in order, each once
abbrev pub tiling_of : ℕ → ℕ → List (List Point) → List (List (List Point)) → Tiles
tiling_of w h obstructions lists =
    record { width = w; height = h; obstructions = in_order gridded_cmp obstructions; requirements = in_order (slice_cmp gridded_cmp) (map (λ patterns. in_order gridded_cmp patterns) lists) }

-- whether g is a member: in the grid, with no obstruction, and with a pattern of each list
abbrev pub is_member : Tiles → List Point → Bool
is_member t g =
    fits_grid t.width t.height g && (list_all (λ p. not (holds g p)) t.obstructions && list_all (λ patterns. list_any (λ p. holds g p) patterns) t.requirements)

-- how many members of length n there are
abbrev pub count : Tiles → ℕ → ℕ
count t n = length (filter (λ g. is_member t g) (gridded_of t.width t.height n))
