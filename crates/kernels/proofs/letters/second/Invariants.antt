use Rattle.std.proofs.Common.{◌≡◌, ◌+◌, [], ◌∷◌, get_or}
use Rattle.kernels.specs.Search.{found_from}
use Rattle.kernels.proofs.letters.second.Given as goal

abbrev pub invariant-loop-b : goal.invariant-loop-b
invariant-loop-b g l =
    found_from (get_or l.text l.a 0 ∷ []) (get_or l.pattern 0 0 ∷ []) (l.a + 1) l.text 1 l.pattern
    ≡ found_from (get_or l.text l.a 0 ∷ []) (get_or l.pattern 0 0 ∷ []) l.b l.text 1 l.pattern
