use Rattle.std.proofs.Common.{◌≡◌, ◌+◌, [], ◌∷◌, get_or}
use Rattle.kernels.specs.Search.{found_in_cells_from}
use Rattle.kernels.proofs.cells.third.Given as goal

abbrev pub invariant-loop-c : goal.invariant-loop-c
invariant-loop-c g l =
    found_in_cells_from (get_or l.text l.a 0 ∷ get_or l.text l.b 0 ∷ []) (get_or l.pattern 0 0 ∷ get_or l.pattern 1 0 ∷ []) (l.b + 1) l.text l.text_cells 2 l.pattern l.pattern_cells
    ≡ found_in_cells_from (get_or l.text l.a 0 ∷ get_or l.text l.b 0 ∷ []) (get_or l.pattern 0 0 ∷ get_or l.pattern 1 0 ∷ []) l.c l.text l.text_cells 2 l.pattern l.pattern_cells
