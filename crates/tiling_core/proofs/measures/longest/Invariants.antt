use Rattle.std.proofs.Common.{◌≡◌, ◌≤◌, take}
use Rattle.tiling_core.specs.Measures.{longest}
use Rattle.tiling_core.proofs.measures.longest.Given as goal

abbrev pub invariant-loop-pattern : goal.invariant-loop-pattern
invariant-loop-pattern l = record { so_far : l.most ≡ longest (take l.pattern-index l.patterns); short : l.most ≤ 9 }
