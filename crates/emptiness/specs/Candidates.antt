-- The patterns of one or two points in some cells.
use Rattle.std.specs.Prelude.{◌≡◌, true, ℕ, Bool, not, ◌&&◌, nat_le, cond, List, [], ◌∷◌, ◌++◌, filter, map}
use Rattle.std.specs.List.{flat_map, range_with_len, list_any}
use Rattle.gridded.specs.declared.cell.Cell.{Cell}
use Rattle.lists.specs.Members.{IsIn}
use Rattle.gridded.specs.Grids.{Point, holds, IsGridded}
use Rattle.tiling_core.specs.Tiles.{Tiles, is_member}
use Rattle.gridded.specs.CellSets.{is_among}
use Rattle.gridded.specs.Small.{point_at, rising, falling}
use Rattle.emptiness.specs.Glueing.{reaches}

-- a point in c, and right of it one in d
abbrev pub pairs_of : Cell → Cell → List (List Point)
pairs_of c d = cond (nat_le c.x d.x) (cond (nat_le c.y d.y) (rising c d ∷ []) [] ++ cond (nat_le d.y c.y) (falling c d ∷ []) []) []

-- a point in c, alone or with one in the cells to the right of it
abbrev pub candidates_with : List Cell → Cell → List (List Point)
candidates_with cells c = point_at c ∷ flat_map (λ d. pairs_of c d) cells

abbrev pub candidates_of : List Cell → List (List Point)
candidates_of cells = flat_map (λ c. candidates_with cells c) cells

-- whether p holds no obstruction, and no member holds it
abbrev pub is_unheld : Tiles → List Point → Bool
is_unheld t p = not (list_any (λ o. holds p o) t.obstructions) && not (reaches t t.requirements p)

-- each of them is a member
abbrev pub AreMembers : Tiles → List (List Point) → Type 0
AreMembers t members = (m : List Point) → IsIn m members → IsGridded m × (is_member t m ≡ true)
