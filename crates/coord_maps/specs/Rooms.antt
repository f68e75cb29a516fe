-- Where the next point of a preimage may be.
use Rattle.std.specs.Prelude.{◌≡◌, ◌<◌, ◌≤◌, ℕ, ◌+◌, ◌&&◌, nat_le, List}
use Rattle.gridded.specs.Grids.{Point}
use Rattle.coord_maps.specs.declared.grid_map.GridMap.{GridMap}
use Rattle.coord_maps.specs.declared.listing.Room.{Room}
use Rattle.coord_maps.specs.LineMaps.{first_line, parts_of}
use Rattle.coord_maps.specs.Preimages.{may_come, put}

-- of the new cells that go to that of p, the room has those in which p may come after some points
pub record IsRoom (m : GridMap) (s : List Point) (p : Point) (r : Room) : Type 0 where
  pub left_in : first_line m.columns p.cell.x ≤ r.left
  pub right_is : r.right ≡ first_line m.columns p.cell.x + parts_of m.columns p.cell.x
  pub low_in : first_line m.rows p.cell.y ≤ r.low
  pub top_in : r.top < first_line m.rows p.cell.y + parts_of m.rows p.cell.y
  pub few : r.top < 8
  pub narrow : r.right ≤ 8
  pub told : (x y : ℕ) → first_line m.columns p.cell.x ≤ x → first_line m.rows p.cell.y ≤ y → y < first_line m.rows p.cell.y + parts_of m.rows p.cell.y → may_come s (put p x y) ≡ (nat_le r.left x && (nat_le r.low y && nat_le y r.top))
