-- The next length adds the product of the two terms.
use Rattle.std.proofs.Common.{◌*◌, ◌-◌, ℕ, length, ap, sym, ◌∙◌, arith}
use Rattle.std.specs.Prelude.{sum_by}
use Rattle.std.specs.List.{range_with_len}
use Rattle.css_terms.specs.Terms.{capped}
use Rattle.css_terms.proofs.Sums.{as_far}
use Rattle.css_terms.proofs.series.convolution_at.Goals as goal
use Rattle.lists.proofs.Counts.{sum_next}

pub loop-k-preserved : goal.loop-k-preserved
loop-k-preserved c = λ f g h s e.
    let k = c.loop-k.k in
    let n = length c.args.tails.now in
    let term : ℕ → ℕ = λ j. f j * g (n - j) in
    c.plus-total.ensures.capped (sum_by term (range_with_len 0 k)) (term k) (c.loop-k.invariant f g h s e)
    (c.times.ensures.capped (f k) (g (n - k)) (c.term_at.ensures ∙ h k) (c.tail_at.ensures g s e))
    ∙ ap capped (sym (sum_next term k))

pub returns : goal.returns
returns c = λ f g h s e. let n = length c.args.tails.now in c.loop-k.invariant f g h s e ∙ ap capped (as_far (λ j. f j * g (n - j)) c.loop-k.k n (omega (arith, c.loop-k-test.false, c.loop-k.auto.k-end)))
