use Rattle.std.proofs.Common.{◌≡◌, All, map}
use Rattle.gridded.specs.Orders.{gridded_cmp}
use Rattle.sequences.specs.Ascending.{in_order}
use Rattle.tiling_core.specs.Tiles.{IsKept}
use Rattle.tiling_core.proofs.made.each_kept.Given as goal

abbrev pub invariant-loop-patterns : goal.invariant-loop-patterns
invariant-loop-patterns l = record { so_far : l.ordered.items ≡ map (λ patterns. in_order gridded_cmp patterns) l.yielded; few : All (λ patterns. IsKept patterns) l.ordered.items }
