use Rattle.std.proofs.Common.{◌≡◌, length}
use Rattle.css_domain.specs.Added.{order_from}
use Rattle.css_prune.specs.Places.{ArePlaces, calls}
use Rattle.css_prune.proofs.order.order_of.Given as goal

abbrev pub invariant-loop-place : goal.invariant-loop-place
invariant-loop-place l =
    record {
      as_many : length l.places.items ≡ length l.keep;
      order : l.order.items ≡ order_from l.root (calls l.records l.picks) l.place;
      places : ArePlaces l.order.items l.places.items;
    }
