-- What lies in the new grid holds a preimage of a pattern exactly where its collapse holds the pattern.
use Rattle.std.proofs.Common.{◌≡◌, true, List, subst}
use Rattle.gridded.specs.Grids.{Point, is_consistent, IsGridded, Holds}
use Rattle.gridded.specs.Laws.{GriddedAreListed}
use Rattle.gridded.proofs.Lifting.{lifted_held, Holds-moved}
use Rattle.tiling_core.specs.Members.{HoldsOneOf}
use Rattle.coord_maps.specs.declared.grid_map.GridMap.{GridMap}
use Rattle.coord_maps.specs.LineMaps.{new_lines}
use Rattle.coord_maps.specs.GridMaps.{old_cell, collapse, fits_new}
use Rattle.coord_maps.specs.Preimages.{preimages}
use Rattle.coord_maps.specs.Laws.{CollapseHoldsPatterns}
use Rattle.coord_maps.proofs.Memberships.{preimage_is_listed, listed_is_preimage}

pub preimage_held : GriddedAreListed → (m : GridMap) (h p : List Point) → IsGridded p → is_consistent h ≡ true → fits_new m h ≡ true → Holds (collapse m h) p → HoldsOneOf h (preimages m p)
preimage_held listed m h p g c i held =
    let l = lifted_held (old_cell m) h p c held in
    record {
      pattern = l.0;
      listed = preimage_is_listed listed m p l.0 g (record { collapses = l.1.moves; consistent = l.1.consistent; inside = l.1.inside (new_lines m.columns) (new_lines m.rows) i });
      held = l.1.held;
    }

pub collapse_held : GriddedAreListed → (m : GridMap) (h p : List Point) → HoldsOneOf h (preimages m p) → Holds (collapse m h) p
collapse_held listed m h p one =
    let q = listed_is_preimage listed m p one.pattern one.listed in
    subst (λ r. Holds (collapse m h) r) q.collapses (Holds-moved (old_cell m) h one.pattern one.held)

pub collapse_holds_patterns : GriddedAreListed → CollapseHoldsPatterns
collapse_holds_patterns listed m h p g c i = (collapse_held listed m h p, preimage_held listed m h p g c i)
