use Rattle.std.proofs.Common.{◌≡◌, ◌*◌, ◌-◌, ℕ, length}
use Rattle.std.specs.Prelude.{sum_by}
use Rattle.std.specs.List.{range_with_len}
use Rattle.css_terms.specs.Terms.{capped}
use Rattle.css_terms.specs.Series.{ShowsAll, ShowsAt, items_of}
use Rattle.css_terms.proofs.series.convolution_at.Given as goal

abbrev pub invariant-loop-k : goal.invariant-loop-k
invariant-loop-k l = (f g : ℕ → ℕ) → ShowsAll l.child f → ShowsAt (items_of l.tails) (length l.tails) l.back g → l.last ≡ capped (g (length l.tails)) → l.total ≡ capped (sum_by (λ k. f k * g (length l.tails - k)) (range_with_len 0 l.k))
