use Rattle.std.proofs.Common.{◌≡◌, ℕ, [], length}
use Rattle.std.specs.Prelude.{slice_index_or}
use Rattle.css_terms.specs.Series.{lists_of}
use Rattle.css_terms.proofs.evaluate.empty_tails.Given as goal

abbrev pub invariant-loop-row : goal.invariant-loop-row
invariant-loop-row l = (length l.tails.items ≡ l.row-index) × ((c : ℕ) → slice_index_or (lists_of l.tails.items) c [] ≡ [])
