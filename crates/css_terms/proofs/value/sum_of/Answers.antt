-- The next child adds its count.
use Rattle.std.proofs.Common.{◌<◌, ℕ, false, length, take, get_or, ap, sym, ◌∙◌, arith}
use Rattle.std.specs.Prelude.{map, sum_by, slice_index_or}
use Rattle.std.proofs.lemmas.List.{length-map}
use Rattle.css_terms.specs.Terms.{capped}
use Rattle.css_terms.specs.Series.{places}
use Rattle.css_terms.specs.declared.term.Term.TheVariants.{Exact}
use Rattle.css_terms.proofs.Shown.{below_at, place_at, sum_step}
use Rattle.css_terms.proofs.value.sum_of.Goals as goal

pub series_at-requires : goal.series_at-requires
series_at-requires c = below_at c.args.children.now c.loop-child.child-index (length c.args.series.now) c.requires c.loop-child-test.true

pub loop-child-preserved : goal.loop-child-preserved
loop-child-preserved c = λ known k.
    let children = c.args.children.now in
    let i = c.loop-child.child-index in
    let p : ℕ = (get_or children i (0, false)).0 in
    let small : p < length c.args.series.now = below_at children i (length c.args.series.now) c.requires c.loop-child-test.true in
    let l = length-map c.args.series.now (λ v. v.items) in
    c.plus-total.ensures.capped (sum_by (λ d. d c.args.n) (map known (places (take i children)))) (known p c.args.n) (c.loop-child.invariant known k)
    (c.term_at.ensures ∙ ap (λ s. slice_index_or s c.args.n (Exact 0)) c.series_at.ensures ∙ k p (omega (arith, small, l)) c.args.n)
    ∙ ap capped (sym (sum_step children known c.args.n i p c.loop-child-test.true (place_at children i c.loop-child-test.true)))
