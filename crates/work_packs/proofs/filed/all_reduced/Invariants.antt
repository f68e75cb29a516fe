use Rattle.work_packs.specs.RulesMade.{AreReduced}
use Rattle.work_packs.proofs.filed.all_reduced.Given as goal

abbrev pub invariant-loop-tiling : goal.invariant-loop-tiling
invariant-loop-tiling l = AreReduced l.yielded l.children.items l.traces.items
