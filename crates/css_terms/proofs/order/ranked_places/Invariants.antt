use Rattle.std.proofs.Common.{◌≡◌, take}
use Rattle.css_terms.specs.Rows.{ranked_places}
use Rattle.css_terms.proofs.order.ranked_places.Given as goal

abbrev pub invariant-loop-place : goal.invariant-loop-place
invariant-loop-place l = l.order.items ≡ ranked_places (take l.place l.rows)
