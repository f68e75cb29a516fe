-- What a tiling forbids and requires.
use Rattle.std.specs.Prelude.{ℕ, nat_lt, Bool, not, ◌&&◌, List, ◌++◌, filter}
use Rattle.std.specs.List.{list_any}
use Rattle.std.specs.Cmp.Lexicographic.{pointwise}
use Rattle.gridded.specs.declared.cell.Cell.{Cell}
use Rattle.gridded.specs.Grids.{Point, cells_in, holds}
use Rattle.gridded.specs.Small.{point_at}
use Rattle.gridded.specs.CellSets.{is_among as has_cell}
use Rattle.gridded.specs.Laws.{IsCellOf}
use Rattle.gridded.specs.Orders.{gridded_eq}
use Rattle.tiling_core.specs.Tiles.{Tiles, tiling_of}
use Rattle.lists.specs.Members.{IsIn}

abbrev pub is_among : List (List Point) → List Point → Bool
is_among patterns g = list_any (gridded_eq g) patterns

abbrev pub forbids : Tiles → List Point → Bool
forbids t g = is_among t.obstructions g

-- the cells of the grid whose point is no obstruction
abbrev pub active_cells : Tiles → List Cell
active_cells t = filter (λ c. not (forbids t (point_at c))) (cells_in t.width t.height)

-- whether c lies in the grid and is none of the forbidden cells
abbrev pub is_free : ℕ → ℕ → List Cell → Cell → Bool
is_free w h forbidden c = nat_lt c.x w && nat_lt c.y h && not (has_cell forbidden c)

-- c is a cell of the grid, and its point is no obstruction
pub record IsActive (t : Tiles) (c : Cell) : Type 0 where
  pub in_grid : IsCellOf t.width t.height c
  pub free : ¬ (IsIn (point_at c) t.obstructions)

abbrev pub holds_another : List (List Point) → List Point → Bool
holds_another patterns g = list_any (λ p. not (gridded_eq g p) && holds g p) patterns

-- the patterns that hold no other of them
abbrev pub minimal : List (List Point) → List (List Point)
minimal patterns = filter (λ g. not (holds_another patterns g)) patterns

-- t with further obstructions and lists
abbrev pub also : Tiles → List (List Point) → List (List (List Point)) → Tiles
also t obstructions lists = tiling_of t.width t.height (obstructions ++ t.obstructions) (lists ++ t.requirements)

-- t with those obstructions alone that hold no other
abbrev pub with_minimal : Tiles → Tiles
with_minimal t = tiling_of t.width t.height (minimal t.obstructions) t.requirements

-- whether it is a requirement list
abbrev pub requires_list : Tiles → List (List Point) → Bool
requires_list t patterns = list_any (pointwise gridded_eq patterns) t.requirements
