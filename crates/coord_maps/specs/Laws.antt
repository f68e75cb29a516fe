-- Laws of collapse, preimages and stretch, as facts that clauses can name.
use Rattle.std.specs.Prelude.{◌≡◌, ◌↔◌, ℕ, true, List}
use Rattle.gridded.specs.Grids.{Point, is_consistent, IsGridded, Holds}
use Rattle.gridded.specs.Laws.{IsGriddedOf}
use Rattle.tiling_core.specs.Tiles.{Tiles, IsTiling, is_member}
use Rattle.tiling_core.specs.Members.{HoldsOneOf}
use Rattle.coord_maps.specs.declared.grid_map.GridMap.{GridMap}
use Rattle.coord_maps.specs.LineMaps.{new_lines}
use Rattle.coord_maps.specs.GridMaps.{IsGridMap, collapse, fits_new}
use Rattle.coord_maps.specs.Preimages.{preimages}
use Rattle.coord_maps.specs.Stretches.{stretch, IsMapOf}
use Rattle.lists.specs.Members.{IsIn, NoRepeats}

-- h is consistent in the new grid, and collapses to g
pub record IsPreimage (m : GridMap) (g h : List Point) : Type 0 where
  pub collapses : collapse m h ≡ g
  pub consistent : is_consistent h ≡ true
  pub inside : fits_new m h ≡ true

abbrev pub PreimagesAreListed : Type 0
PreimagesAreListed = (m : GridMap) (g h : List Point) → IsGridded g → IsIn h (preimages m g) ↔ IsPreimage m g h

abbrev pub PreimagesAreListedOnce : Type 0
PreimagesAreListedOnce = (m : GridMap) (g : List Point) → NoRepeats (preimages m g)

abbrev pub CollapseIsGridded : Type 0
CollapseIsGridded =
    (m : GridMap) (n : ℕ) (h : List Point) → IsGridMap m → IsGriddedOf (new_lines m.columns) (new_lines m.rows) n h → IsGriddedOf m.columns.lines m.rows.lines n (collapse m h)

-- what lies in the new grid holds some preimage of a pattern exactly where its collapse holds the pattern
abbrev pub CollapseHoldsPatterns : Type 0
CollapseHoldsPatterns = (m : GridMap) (h p : List Point) → IsGridded p → is_consistent h ≡ true → fits_new m h ≡ true → HoldsOneOf h (preimages m p) ↔ Holds (collapse m h) p

-- so it is a member of the stretched tiling exactly where its collapse is a member of the tiling
abbrev pub StretchKeepsMembers : Type 0
StretchKeepsMembers =
    (m : GridMap) (t : Tiles) (h : List Point) → IsGridMap m → IsTiling t → IsMapOf m t → is_consistent h ≡ true → fits_new m h ≡ true → is_member (stretch m t) h ≡ is_member t (collapse m h)
