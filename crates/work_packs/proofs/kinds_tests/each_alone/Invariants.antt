use Rattle.std.specs.Prelude.{All}
use Rattle.tiling_core.specs.Tiles.{IsKept}
use Rattle.work_packs.proofs.kinds_tests.each_alone.Given as goal

abbrev pub invariant-loop-pattern : goal.invariant-loop-pattern
invariant-loop-pattern l = All (λ patterns. IsKept patterns) l.lists.items
