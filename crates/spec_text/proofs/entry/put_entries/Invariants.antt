-- The lines of the entries so far.
use Rattle.std.proofs.Common.{◌≡◌, ◌++◌, take}
use Rattle.spec_text.specs.Entries.{entries_text}
use Rattle.spec_text.proofs.entry.put_entries.Given as goal

abbrev pub invariant-loop-number : goal.invariant-loop-number
invariant-loop-number l = l.out.items ≡ l.initial.out.items ++ entries_text (take l.number l.fn.entries)
