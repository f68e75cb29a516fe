use Rattle.std.proofs.Common.{◌≡◌, ◌≤◌, ◌-◌, ◌+◌, ◌++◌, length, drop}
use Rattle.std.specs.Prelude.{not}
use Rattle.std.specs.List.{filter, flat_map, range_with_len}
use Rattle.gridded.specs.CellSets.{is_among as has_cell}
use Rattle.gridded.specs.Places.{touches}
use Rattle.coord_maps.specs.Preimages.{in_cell, in_column, placed_points, point_at}
use Rattle.coord_maps.proofs.listing.+list_from.Given as goal

abbrev pub decreases-list_from : goal.decreases-list_from
decreases-list_from l = length l.g.now - l.placed

abbrev pub invariant-loop-y : goal.invariant-loop-y
invariant-loop-y l = record {
  listed : l.found.items ≡ l.initial.found.items ++ filter (λ h. not (touches (has_cell l.barred) h)) (flat_map (in_cell l.map (placed_points l.g l.cells l.placed) (point_at l.g l.placed) (drop (l.placed + 1) l.g) l.x) (range_with_len l.initial.y (l.y - l.initial.y)));
  within : l.y ≤ l.initial.y + (l.y-end - l.initial.y);
}

abbrev pub invariant-loop-x : goal.invariant-loop-x
invariant-loop-x l = record {
  listed : l.found.items ≡ l.initial.found.items ++ filter (λ h. not (touches (has_cell l.barred) h)) (flat_map (in_column l.map (placed_points l.g l.cells l.placed) (point_at l.g l.placed) (drop (l.placed + 1) l.g)) (range_with_len l.initial.x (l.x - l.initial.x)));
  within : l.x ≤ l.initial.x + (l.x-end - l.initial.x);
}
