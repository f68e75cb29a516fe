use Rattle.std.proofs.Common.{◌≡◌, ◌+◌, ◌≤◌, ℕ, length}
use Rattle.std.specs.Prelude.{slice_index_or}
use Rattle.css_terms.specs.Terms.{capped}
use Rattle.css_terms.specs.Series.{Knows, ShowsTails, tail_count, items_of, places}
use Rattle.css_terms.specs.declared.term.Term.TheVariants.{Exact}
use Rattle.css_terms.proofs.value.next_tails.Given as goal

abbrev pub invariant-loop-back : goal.invariant-loop-back
invariant-loop-back l = (length l.lasts.items ≡ l.back + 1) × ((known : ℕ → ℕ → ℕ) → Knows (items_of l.series) known → ShowsTails (items_of l.tails) (length l.tails) (places l.children) known → (b : ℕ) → b ≤ l.back → slice_index_or l.lasts.items b (Exact 0) ≡ capped (tail_count known (places l.children) b (length l.tails)))
