use Rattle.std.proofs.Common.{◌≡◌, take, length}
use Rattle.std.specs.Prelude.{map}
use Rattle.emptiness.specs.Insertion.{raised_letter}
use Rattle.emptiness.proofs.insertion.raised_letters.Given as goal

abbrev pub invariant-loop-i : goal.invariant-loop-i
invariant-loop-i l = record { so_far : take l.i l.own ≡ map (raised_letter l.new) (take l.i l.letters); nine : length l.own ≡ 9 }
