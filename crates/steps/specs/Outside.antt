-- Patterns with a point outside some cells.
use Rattle.std.specs.Prelude.{◌≡◌, Bool, true, false, not, ◌&&◌, nat_lt, List, length}
use Rattle.std.specs.List.{list_any}
use Rattle.lists.specs.Members.{IsIn}
use Rattle.gridded.specs.declared.cell.Cell.{Cell}
use Rattle.gridded.specs.CellSets.{is_among as has_cell}
use Rattle.gridded.specs.Grids.{Point, holds}
use Rattle.gridded.specs.Places.{touches}
use Rattle.tiling_core.specs.Patterns.{holds_another}

-- two points or more, and one of them outside the cells
abbrev pub leaves : List Cell → List Point → Bool
leaves cells g = nat_lt 1 (length g) && touches (λ c. not (has_cell cells c)) g

-- each of the patterns that leaves the cells holds another
abbrev pub LeavingHolds : List Cell → List (List Point) → Type 0
LeavingHolds cells patterns = (g : List Point) → IsIn g patterns → leaves cells g ≡ true → holds_another patterns g ≡ true

-- none of two points or more that stays in the cells holds a single point of the patterns
abbrev pub HoldsNoSingle : List Cell → List (List Point) → Type 0
HoldsNoSingle cells patterns = (g p : List Point) → IsIn g patterns → IsIn p patterns → length p ≡ 1 → nat_lt 1 (length g) ≡ true → leaves cells g ≡ false → holds g p ≡ false

-- the first ones are single points
abbrev pub AreSingle : List (List Point) → Type 0
AreSingle patterns = (p : List Point) → IsIn p patterns → length p ≡ 1
