-- Which obstructions of a placement's child are listed: those that stay beside the single points of the barred cells.
use Rattle.std.specs.Prelude.{◌≡◌, ◌<◌, ℕ, Bool, true, not, ◌||◌, ◌==◌, ◌+◌, nat_lt, List, ◌++◌, filter, flat_map, length}
use Rattle.gridded.specs.declared.cell.Cell.{Cell}
use Rattle.gridded.specs.CellSets.{is_among as has_cell}
use Rattle.gridded.specs.Grids.{Point}
use Rattle.gridded.specs.Laws.{IsCellOf}
use Rattle.gridded.specs.Places.{touches}
use Rattle.lists.specs.Members.{IsIn}
use Rattle.tiling_core.specs.Tiles.{Tiles, AreGridded}
use Rattle.coord_maps.specs.declared.grid_map.GridMap.{GridMap}
use Rattle.coord_maps.specs.Stretches.{preimages_of}
use Rattle.rule_kinds.specs.Pointeds.{PointedPattern}
use Rattle.rule_kinds.specs.declared.kind.Direction.{Direction}
use Rattle.rule_kinds.specs.Children.{alone_in, lifts_pointed, is_beyond}
use Rattle.placement.specs.Placing.{blank, is_beside}

-- each cell of the set lies in the grid of w columns and h rows, and is another one on a line of m
abbrev pub AreBeside : ℕ → ℕ → Cell → List Cell → Type 0
AreBeside w h m set = (c : Cell) → IsIn c set → IsCellOf w h c × (is_beside m c ≡ true)

-- a single point, and what has no point in the barred cells
abbrev pub stays : List Cell → List Point → Bool
stays barred g = length g == 1 || not (touches (has_cell barred) g)

-- whether some of the patterns don't stay
abbrev pub some_leave : List Cell → List (List Point) → Bool
some_leave barred xs = nat_lt (length (filter (stays barred) xs)) (length xs)

-- the obstructions of a child that aren't preimages of the tiling's
abbrev pub other_obstructions : GridMap → Cell → Tiles → List PointedPattern → Direction → List (List Point)
other_obstructions o m t qs d = alone_in (blank (t.width + 2) (t.height + 2)) m ++ flat_map (lifts_pointed o (is_beyond d m)) qs

abbrev pub whole_obstructions : GridMap → Cell → Tiles → List PointedPattern → Direction → List (List Point)
whole_obstructions o m t qs d = preimages_of o t.obstructions ++ other_obstructions o m t qs d

-- those obstructions that stay, and whether some don't
pub record AreThinned (barred : List Cell) (o : GridMap) (m : Cell) (t : Tiles) (qs : List PointedPattern) (d : Direction) (listed : List (List Point)) (left_out : Bool) : Type 0 where
  pub those : listed ≡ filter (stays barred) (whole_obstructions o m t qs d)
  pub told : left_out ≡ some_leave barred (whole_obstructions o m t qs d)
  pub gridded : AreGridded (other_obstructions o m t qs d)
  pub few : length (other_obstructions o m t qs d) < 134217728
