-- The lines of the children so far.
use Rattle.std.proofs.Common.{◌≡◌, ◌++◌, take}
use Rattle.spec_text.specs.Entries.{child_lines}
use Rattle.spec_text.proofs.entry.put_child_lines.Given as goal

abbrev pub invariant-loop-index : goal.invariant-loop-index
invariant-loop-index l = l.out.items ≡ l.initial.out.items ++ child_lines (take l.index l.children) l.traces
