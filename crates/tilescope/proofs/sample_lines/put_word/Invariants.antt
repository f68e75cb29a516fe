use Rattle.std.proofs.Common.{◌≡◌, ◌++◌, take, decimal}
use Rattle.std.specs.Prelude.{flat_map}
use Rattle.tilescope.proofs.sample_lines.put_word.Given as goal

abbrev pub invariant-loop-letter : goal.invariant-loop-letter
invariant-loop-letter l = l.out.items ≡ l.initial.out.items ++ flat_map decimal (take l.letter-index l.letter-items)
