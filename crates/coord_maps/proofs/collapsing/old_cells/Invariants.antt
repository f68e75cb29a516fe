use Rattle.std.proofs.Common.{◌≡◌, length, take}
use Rattle.coord_maps.specs.GridMaps.{old_cells}
use Rattle.coord_maps.proofs.collapsing.old_cells.Given as goal

abbrev pub invariant-loop-place : goal.invariant-loop-place
invariant-loop-place l = (length l.old ≡ 9) × (take l.place l.old ≡ old_cells l.map (take l.place l.cells))
