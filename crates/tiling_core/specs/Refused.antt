-- Which patterns make a tiling, and which are refused.
use Rattle.std.specs.Prelude.{◌<◌, ◌≤◌, ◌⊎◌, ℕ, List, ◌∷◌, All}
use Rattle.gridded.specs.Grids.{Point}
use Rattle.tiling_core.specs.Tiles.{IsInGrid}
use Rattle.tiling_core.specs.Outside.{IsFirstOfAll}
use Rattle.tiling_core.specs.declared.outside.TilingFault.{TilingFault}
use Rattle.tiling_core.specs.declared.outside.TilingFault.TheVariants.{Side, Outside, Memory}

-- sides of at most 8
pub record IsGrid (w h : ℕ) : Type 0 where
  pub narrow : w ≤ 8
  pub low : h ≤ 8

-- nothing is refused
pub record IsAccepted (w h : ℕ) (obstructions : List (List Point)) (requirements : List (List (List Point))) : Type 0 where
  pub grid : IsGrid w h
  pub obstructions_in : IsInGrid w h obstructions
  pub requirements_in : All (λ patterns. IsInGrid w h patterns) requirements

-- list 0 is the obstructions, list k the k-th requirement list
abbrev pub IsRefused : ℕ → ℕ → List (List Point) → List (List (List Point)) → TilingFault → Type 0
IsRefused w h obstructions requirements Side = (8 < w) ⊎ (8 < h)
IsRefused w h obstructions requirements (Outside list index) = IsGrid w h × IsFirstOfAll w h (obstructions ∷ requirements) list index
IsRefused w h obstructions requirements Memory = Unit {0}
