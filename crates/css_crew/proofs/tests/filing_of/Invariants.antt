use Rattle.std.proofs.Common.{◌≡◌, ℕ, length}
use Rattle.lists.specs.Members.{IsIn}
use Rattle.css_crew.specs.declared.tests.Pair.{Pair}
use Rattle.css_crew.proofs.tests.filing_of.Given as goal

-- each rule makes the number, and there is one for each pair so far
abbrev pub invariant-loop-pair : goal.invariant-loop-pair
invariant-loop-pair l = ((r : Pair) → IsIn r l.rules.items → r.parent ≡ l.parent) × (length l.rules.items ≡ l.pair-index)
