use Rattle.std.proofs.Common.{◌≡◌, ◌+◌, [], ◌∷◌, get_or}
use Rattle.kernels.specs.Search.{found_in_cells_from}
use Rattle.kernels.proofs.cells.second.Given as goal

abbrev pub invariant-loop-b : goal.invariant-loop-b
invariant-loop-b g l =
    found_in_cells_from (get_or l.text l.a 0 ∷ []) (get_or l.pattern 0 0 ∷ []) (l.a + 1) l.text l.text_cells 1 l.pattern l.pattern_cells
    ≡ found_in_cells_from (get_or l.text l.a 0 ∷ []) (get_or l.pattern 0 0 ∷ []) l.b l.text l.text_cells 1 l.pattern l.pattern_cells
