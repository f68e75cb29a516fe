use Rattle.std.specs.Cmp.Lexicographic.{slice_cmp}
use Rattle.gridded.specs.Orders.{cell_cmp}
use Rattle.sequences.proofs.Adjacent.{Ascends}
use Rattle.factoring.proofs.sharing.ascend.Given as goal

abbrev pub invariant-loop-place : goal.invariant-loop-place
invariant-loop-place l = Ascends (slice_cmp cell_cmp) l.place l.sets
