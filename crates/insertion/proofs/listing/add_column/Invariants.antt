use Rattle.std.proofs.Common.{◌≡◌, ◌++◌}
use Rattle.insertion.specs.Open.{insertions_in}
use Rattle.insertion.proofs.listing.add_column.Given as goal

abbrev pub invariant-loop-y : goal.invariant-loop-y
invariant-loop-y l = l.kinds.items ≡ l.initial.kinds.items ++ insertions_in l.active l.required l.x l.y
