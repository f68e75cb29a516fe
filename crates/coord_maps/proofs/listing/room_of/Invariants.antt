use Rattle.std.proofs.Common.{◌≡◌, ◌≤◌, ℕ, get_or}
use Rattle.std.specs.Prelude.{◌&&◌, nat_le}
use Rattle.gridded.specs.Orders.{letters_of}
use Rattle.coord_maps.specs.Preimages.{may_come, placed_points}
use Rattle.coord_maps.proofs.listing.room_of.Given as goal

abbrev pub invariant-loop-place : goal.invariant-loop-place
invariant-loop-place l = record {
  left_in : l.initial.left ≤ l.left;
  low_in : l.initial.low ≤ l.low;
  top_in : l.top ≤ l.initial.top;
  told : (x y : ℕ) → l.initial.left ≤ x → l.initial.low ≤ y → y ≤ l.initial.top → may_come (placed_points l.g l.cells l.place) (record { letter = get_or (letters_of l.g) l.placed 0; cell = record { x = x; y = y } }) ≡ (nat_le l.left x && (nat_le l.low y && nat_le y l.top));
}
