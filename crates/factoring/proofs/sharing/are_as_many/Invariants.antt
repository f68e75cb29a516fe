use Rattle.std.proofs.Common.{◌≡◌, ◌+◌, length, take}
use Rattle.std.specs.Prelude.{List, sum_by}
use Rattle.gridded.specs.declared.cell.Cell.{Cell}
use Rattle.factoring.proofs.sharing.are_as_many.Given as goal

abbrev pub invariant-loop-set : goal.invariant-loop-set
invariant-loop-set l = l.left + sum_by (λ (set : List Cell). length set) (take l.set-index l.sets) ≡ length l.fn.cells
