use Rattle.std.proofs.Common.{◌≡◌, []}
use Rattle.kernels.specs.Search.{found_in_cells_from}
use Rattle.kernels.proofs.cells.occurs_cells.Given as goal

abbrev pub invariant-loop-a : goal.invariant-loop-a
invariant-loop-a g l =
    found_in_cells_from [] [] 0 l.text l.text_cells 0 l.pattern l.pattern_cells
    ≡ found_in_cells_from [] [] l.a l.text l.text_cells 0 l.pattern l.pattern_cells
