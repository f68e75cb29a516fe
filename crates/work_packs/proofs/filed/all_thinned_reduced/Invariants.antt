use Rattle.work_packs.specs.RulesMade.{ReducesThinned}
use Rattle.work_packs.proofs.filed.all_thinned_reduced.Given as goal

abbrev pub invariant-loop-tiling : goal.invariant-loop-tiling
invariant-loop-tiling l = ReducesThinned l.yielded l.children.items l.traces.items
