use Rattle.std.proofs.Common.{◌≡◌, take}
use Rattle.gridded.specs.CellSets.{is_among, cells_that, IsCellSet}
use Rattle.line_readers.proofs.digit_set.set_of.Given as goal

-- the cells so far, ascending
abbrev pub invariant-loop-cell : goal.invariant-loop-cell
invariant-loop-cell l = record { so_far : l.set ≡ cells_that (λ c. is_among (take l.cell-index l.cells) c) }
