use Rattle.std.proofs.Common.{◌≡◌, ◌+◌, ◌<◌, ◌≤◌, ℕ, length}
use Rattle.std.specs.Prelude.{[], slice_get, slice_index_or, Some}
use Rattle.css_terms.specs.Series.{lists_of}
use Rattle.css_terms.specs.Rows.{AreTailsOf}
use Rattle.css_terms.specs.declared.rows.Row.{Row}
use Rattle.css_terms.proofs.evaluate.add_tails.Given as goal

abbrev pub invariant-loop-place : goal.invariant-loop-place
invariant-loop-place l =
    (length l.tails.items ≡ length l.rows)
    × ((c : ℕ) (row : Row) → slice_get l.rows c ≡ Some row → c < l.place → AreTailsOf l.rows row (slice_index_or (lists_of l.tails.items) c []) (l.n + 1))
    × ((c : ℕ) (row : Row) → slice_get l.rows c ≡ Some row → l.place ≤ c → AreTailsOf l.rows row (slice_index_or (lists_of l.tails.items) c []) l.n)
