use Rattle.std.proofs.Common.{◌≡◌}
use Rattle.std.specs.Prelude.{◌&&◌, nat_lt}
use Rattle.gridded.specs.CellSets.{cells_that, bit_of}
use Rattle.factoring.specs.Tied.{is_next}
use Rattle.factoring.proofs.growing.grown.Given as goal

abbrev pub invariant-loop-number : goal.invariant-loop-number
invariant-loop-number l = l.larger ≡ cells_that (λ c. nat_lt (bit_of c) l.number && is_next l.active l.tied l.set c)
