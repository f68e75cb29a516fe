-- Tilings without members, and patterns that no member holds.
use Rattle.std.specs.Prelude.{◌≡◌, ◌<◌, ◌≤◌, ◌↔◌, ◌⊎◌, ℕ, true, List, length}
use Rattle.std.specs.List.Sorted.{IsStrictlySortedBy}
use Rattle.gridded.specs.Grids.{Point, Holds, gridded_of}
use Rattle.gridded.specs.declared.cell.Cell.{Cell}
use Rattle.gridded.specs.Orders.{cells_of, gridded_cmp}
use Rattle.tiling_core.specs.Patterns.{active_cells}
use Rattle.tiling_core.specs.Tiles.{Tiles, count, is_member}
use Rattle.tiling_core.specs.Measures.{weight}
use Rattle.lists.specs.Members.{IsIn}

-- no gridded permutation of any length is a member
abbrev pub IsEmpty : Tiles → Type 0
IsEmpty t = (n : ℕ) → count t n ≡ 0

-- a length of at most so many points at which there is a member
pub record ShortLength (t : Tiles) (most : ℕ) : Type 0 where
  pub size : ℕ
  pub short : size ≤ most
  pub counted : 0 < count t size

-- a tiling that has a member has one of length at most its weight
abbrev pub MembersWithinWeight : Type 0
MembersWithinWeight = (t : Tiles) (n : ℕ) → 0 < count t n → ShortLength t (weight t)

-- some member holds p
pub record IsHeldByMember (t : Tiles) (p : List Point) : Type 0 where
  pub size : ℕ
  pub member : List Point
  pub listed : IsIn member (gridded_of t.width t.height size)
  pub belongs : is_member t member ≡ true
  pub held : Holds member p

-- a gridded permutation of one or two points, over active cells, that holds no obstruction and that no member holds
pub record IsInferable (t : Tiles) (p : List Point) : Type 0 where
  pub small : (length p ≡ 1) ⊎ (length p ≡ 2)
  pub listed : IsIn p (gridded_of t.width t.height (length p))
  pub active : (c : Cell) → IsIn c (cells_of p) → IsIn c (active_cells t)
  pub no_obstruction : (o : List Point) → IsIn o t.obstructions → ¬ (Holds p o)
  pub unheld : ¬ (IsHeldByMember t p)

-- all of them, ascending
pub record IsInferredOf (t : Tiles) (patterns : List (List Point)) : Type 0 where
  pub ascends : IsStrictlySortedBy gridded_cmp patterns
  pub exact : (p : List Point) → IsIn p patterns ↔ IsInferable t p
