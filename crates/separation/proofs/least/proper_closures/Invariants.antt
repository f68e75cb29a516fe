use Rattle.std.proofs.Common.{◌≡◌}
use Rattle.rule_kinds.specs.Choices.{is_bound}
use Rattle.separation.specs.LeastCuts.{proper_once}
use Rattle.separation.proofs.Listing.{closures_at}
use Rattle.separation.proofs.least.proper_closures.Given as goal

abbrev pub invariant-loop-place : goal.invariant-loop-place
invariant-loop-place l = l.sets.items ≡ proper_once l.whole (closures_at (is_bound l.axis l.tiling) l.whole l.axis l.line l.place)
