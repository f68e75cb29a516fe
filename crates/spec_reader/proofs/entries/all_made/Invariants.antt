use Rattle.std.proofs.Common.{◌≡◌}
use Rattle.spec_reader.proofs.entries.all_made.Given as goal

abbrev pub invariant-loop-parts : goal.invariant-loop-parts
invariant-loop-parts l = record { so_far : l.whole.items ≡ l.yielded }
