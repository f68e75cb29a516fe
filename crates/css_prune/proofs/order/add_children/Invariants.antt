use Rattle.std.proofs.Common.{◌≡◌, take, length, nat_eq}
use Rattle.std.specs.Prelude.{map}
use Rattle.css_prune.specs.Places.{ArePlaces}
use Rattle.css_prune.proofs.order.add_children.Given as goal
use Rattle.lists.specs.Added.{with_all_new}

abbrev pub invariant-loop-child : goal.invariant-loop-child
invariant-loop-child l =
    record {
      as_many : length l.places ≡ length l.initial.places;
      order : l.order.items ≡ with_all_new nat_eq l.initial.order.items (map (λ child. child.0) (take l.child-index l.children));
      places : ArePlaces l.order.items l.places;
    }
