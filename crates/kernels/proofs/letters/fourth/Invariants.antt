use Rattle.std.proofs.Common.{◌≡◌, ◌+◌, [], ◌∷◌, get_or}
use Rattle.kernels.specs.Search.{found_from}
use Rattle.kernels.proofs.letters.fourth.Given as goal

abbrev pub invariant-loop-d : goal.invariant-loop-d
invariant-loop-d g l =
    found_from (get_or l.text l.a 0 ∷ get_or l.text l.b 0 ∷ get_or l.text l.c 0 ∷ []) (get_or l.pattern 0 0 ∷ get_or l.pattern 1 0 ∷ get_or l.pattern 2 0 ∷ []) (l.c + 1) l.text 3 l.pattern
    ≡ found_from (get_or l.text l.a 0 ∷ get_or l.text l.b 0 ∷ get_or l.text l.c 0 ∷ []) (get_or l.pattern 0 0 ∷ get_or l.pattern 1 0 ∷ get_or l.pattern 2 0 ∷ []) l.d l.text 3 l.pattern
