-- Tilings on a new grid, whose patterns are the preimages of those on the old one.
use Rattle.std.specs.Prelude.{◌≡◌, List, map, flat_map}
use Rattle.gridded.specs.Grids.{Point}
use Rattle.tiling_core.specs.Tiles.{Tiles, tiling_of}
use Rattle.coord_maps.specs.declared.grid_map.GridMap.{GridMap}
use Rattle.coord_maps.specs.LineMaps.{new_lines}
use Rattle.coord_maps.specs.Preimages.{preimages}

-- the preimages of each pattern
abbrev pub preimages_of : GridMap → List (List Point) → List (List Point)
preimages_of m patterns = flat_map (preimages m) patterns

-- the preimages of the members, list by list
abbrev pub each_preimages_of : GridMap → List (List (List Point)) → List (List (List Point))
each_preimages_of m lists = map (preimages_of m) lists

-- each obstruction is replaced by its preimages, and each list by the preimages of its members
abbrev pub stretch : GridMap → Tiles → Tiles
stretch m t = tiling_of (new_lines m.columns) (new_lines m.rows) (preimages_of m t.obstructions) (each_preimages_of m t.requirements)

-- the old grid of the map is the tiling's
pub record IsMapOf (m : GridMap) (t : Tiles) : Type 0 where
  pub columns : m.columns.lines ≡ t.width
  pub rows : m.rows.lines ≡ t.height
