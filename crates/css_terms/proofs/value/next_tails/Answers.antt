-- One child more, from the back.
use Rattle.std.proofs.Common.{◌≡◌, ◌<◌, ◌+◌, ◌-◌, ℕ, false, length, get_or, ap, sym, ◌∙◌, arith}
use Rattle.std.proofs.lemmas.List.{length-map, get_or_default}
use Rattle.css_terms.specs.Terms.{capped}
use Rattle.css_terms.specs.Series.{places, tail_count}
use Rattle.css_terms.specs.declared.term.Term.TheVariants.{Exact}
use Rattle.css_terms.proofs.Shown.{below_at, place_at, length-push}
use Rattle.css_terms.proofs.Tails.{tail_step, tails_more}
use Rattle.css_terms.proofs.value.next_tails.Goals as goal

pub series_at-requires : goal.series_at-requires
series_at-requires c = below_at c.args.children.now (length c.args.children.now - 1 - c.loop-back.back) (length c.args.series.now) c.requires.below (omega (arith, c.loop-back-test.true))

pub loop-back-preserved : goal.loop-back-preserved
loop-back-preserved c =
    let children = c.args.children.now in
    let back = c.loop-back.back in
    let j = length children - 1 - back in
    let within : j < length children = omega (arith, c.loop-back-test.true) in
    let p : ℕ = (get_or children j (0, false)).0 in
    let small : p < length c.args.series.now = below_at children j (length c.args.series.now) c.requires.below within in
    let l = length-map c.args.series.now (λ v. v.items) in
    let n = length c.args.tails.now in
    let lasts = c.loop-back.lasts.items in
    let long = c.loop-back.invariant.0 in
    let items = c.in_ok-push-2.ensures.items in (
      rw items (length-push lasts c.convolution_at-next.result ∙ ap (λ m. m + 1) long),
      λ known k shown.
          let tail = tail_count known (places children) back in
          let own : c.index.result.now ≡ capped (tail n) = c.index.ensures ∙ get_or_default lasts back c.index.result.now (Exact 0) (omega (arith, long)) ∙ c.loop-back.invariant.1 known k shown back (omega arith) in
          rw items (tails_more lasts c.convolution_at-next.result known (places children) back n long (c.loop-back.invariant.1 known k shown)
          (c.convolution_at-next.ensures (known p) tail (rw c.series_at.ensures (k p (omega (arith, small, l)))) (shown back (omega (arith, c.loop-back-test.true, length-map children (λ x. x.0)))) own
          ∙ ap capped (sym (tail_step children known back p n c.loop-back-test.true (place_at children j within))))),
    )
