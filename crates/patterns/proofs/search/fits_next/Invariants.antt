use Rattle.std.proofs.Common.{◌≡◌, true, take}
use Rattle.patterns.specs.Search.{letters_fit}
use Rattle.patterns.proofs.search.fits_next.Given as goal

abbrev pub invariant-loop-i : goal.invariant-loop-i
invariant-loop-i l = letters_fit l.letter l.next (take l.i l.chosen) (take l.i l.pattern) ≡ true
