use Rattle.std.proofs.Common.{◌≡◌, ◌≤◌, ◌+◌, ◌-◌, ◌++◌, codes}
use Rattle.std.specs.List.{flat_map, range_with_len}
use Rattle.listings.specs.Counts.{count_item}
use Rattle.listings.proofs.count.count_line.Given as goal

abbrev pub invariant-loop-n : goal.invariant-loop-n
invariant-loop-n l = record { counted : l.out.items ≡ codes "count" ++ flat_map (count_item l.basis) (range_with_len 0 l.n); within : l.n ≤ l.last + 1 }
