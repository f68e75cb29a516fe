use Rattle.std.proofs.Common.{◌≡◌}
use Rattle.insertion.proofs.Listed.{insertions_below}
use Rattle.insertion.proofs.listing.arguments.Given as goal

abbrev pub invariant-loop-x : goal.invariant-loop-x
invariant-loop-x l = l.kinds.items ≡ insertions_below l.active l.required l.tiling.height l.x
