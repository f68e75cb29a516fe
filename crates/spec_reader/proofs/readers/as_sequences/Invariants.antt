use Rattle.std.proofs.Common.{◌≡◌, map}
use Rattle.spec_reader.proofs.readers.as_sequences.Given as goal

abbrev pub invariant-loop-list : goal.invariant-loop-list
invariant-loop-list l = record { so_far : l.sequences.items ≡ map (λ list. list.items) l.yielded }
