use Rattle.std.proofs.Common.{◌≡◌, length}
use Rattle.lists.specs.Members.{IsIn}
use Rattle.css_store.specs.declared.tests.Pair.{Pair}
use Rattle.css_store.proofs.tests.filing_of.Given as goal

-- each rule makes the number, and there is one for each pair so far
abbrev pub invariant-loop-pair : goal.invariant-loop-pair
invariant-loop-pair l = ((r : Pair) → IsIn r l.rules.items → r.parent ≡ l.parent) × (length l.rules.items ≡ l.pair-index)
