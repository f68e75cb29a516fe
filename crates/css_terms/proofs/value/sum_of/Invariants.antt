use Rattle.std.proofs.Common.{◌≡◌, ℕ, take}
use Rattle.std.specs.Prelude.{map, sum_by}
use Rattle.css_terms.specs.Terms.{capped}
use Rattle.css_terms.specs.Series.{Knows, items_of, places}
use Rattle.css_terms.proofs.value.sum_of.Given as goal

abbrev pub invariant-loop-child : goal.invariant-loop-child
invariant-loop-child l = (known : ℕ → ℕ → ℕ) → Knows (items_of l.series) known → l.total ≡ capped (sum_by (λ c. c l.n) (map known (places (take l.child-index l.children))))
