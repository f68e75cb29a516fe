use Rattle.std.proofs.Common.{◌≡◌, []}
use Rattle.kernels.specs.Search.{found_from}
use Rattle.kernels.proofs.letters.occurs.Given as goal

abbrev pub invariant-loop-a : goal.invariant-loop-a
invariant-loop-a g l =
    found_from [] [] 0 l.text 0 l.pattern
    ≡ found_from [] [] l.a l.text 0 l.pattern
