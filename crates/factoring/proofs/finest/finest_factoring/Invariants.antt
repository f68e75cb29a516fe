use Rattle.factoring.proofs.Found.{IsFound}
use Rattle.factoring.proofs.finest.finest_factoring.Given as goal

abbrev pub invariant-loop-number : goal.invariant-loop-number
invariant-loop-number l = IsFound l.tiling l.number l.sets.items
