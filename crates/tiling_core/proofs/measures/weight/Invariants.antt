use Rattle.std.proofs.Common.{◌≡◌, ◌≤◌, ◌*◌, take}
use Rattle.std.specs.Prelude.{sum_by}
use Rattle.tiling_core.specs.Measures.{longest}
use Rattle.tiling_core.proofs.measures.weight.Given as goal

abbrev pub invariant-loop-patterns : goal.invariant-loop-patterns
invariant-loop-patterns l = record { so_far : l.weight ≡ sum_by (λ patterns. longest patterns) (take l.patterns-index l.patterns-items); small : l.weight ≤ 9 * l.patterns-index }
