use Rattle.std.proofs.Common.{◌≡◌}
use Rattle.separation.proofs.Listing.{cuts_below}
use Rattle.separation.proofs.least.cuts_along.Given as goal

abbrev pub invariant-loop-line : goal.invariant-loop-line
invariant-loop-line l = l.kinds.items ≡ cuts_below l.axis l.tiling l.line
