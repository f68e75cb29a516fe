use Rattle.std.proofs.Common.{◌≡◌, ◌+◌, [], ◌∷◌, get_or}
use Rattle.kernels.specs.Search.{found_from}
use Rattle.kernels.proofs.letters.third.Given as goal

abbrev pub invariant-loop-c : goal.invariant-loop-c
invariant-loop-c g l =
    found_from (get_or l.text l.a 0 ∷ get_or l.text l.b 0 ∷ []) (get_or l.pattern 0 0 ∷ get_or l.pattern 1 0 ∷ []) (l.b + 1) l.text 2 l.pattern
    ≡ found_from (get_or l.text l.a 0 ∷ get_or l.text l.b 0 ∷ []) (get_or l.pattern 0 0 ∷ get_or l.pattern 1 0 ∷ []) l.c l.text 2 l.pattern
