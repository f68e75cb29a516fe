use Rattle.std.proofs.Common.{◌<◌, ℕ, [], get_or}
use Rattle.gridded.specs.CellSets.{IsCellSet}
use Rattle.factoring.proofs.sharing.read_sets.Given as goal

abbrev pub invariant-loop-set : goal.invariant-loop-set
invariant-loop-set l = (k : ℕ) → k < l.set-index → IsCellSet (get_or l.sets k [])
