-- The first series has the terms.
use Rattle.std.proofs.Common.{◌≡◌, ◌<◌, ◌+◌, [], length, get_or, sym, ap, ◌∙◌, subst, arith}
use Rattle.css_terms.specs.Series.{items_of, lists_of, is_big}
use Rattle.css_terms.specs.Rows.{AreTails, AllShow}
use Rattle.css_terms.specs.declared.term.Term.TheVariants.{Exact}
use Rattle.css_terms.proofs.Cuts.{NoneBig, ended_terms, whole_terms, none_more}
use Rattle.css_terms.proofs.evaluate.terms_of_rows.Goals as goal

pub returns-then-is_first_big : goal.returns-then-is_first_big
returns-then-is_first_big c =
    record {
      terms = λ count counts.
          let lists = items_of c.add_terms.new.series.items in
          let after = c.in_ok-add_terms.ensures.after in
          let inside : 0 < length lists = omega (arith, after.as_many, c.requires.some) in
          c.first_of.ensures
          ∙ ended_terms (count 0) (get_or lists 0 []) c.loop-n.n c.args.last (after.long 0 c.requires.some) (omega (arith, c.loop-n-test.true)) (c.in_ok-add_terms.ensures.shown count counts (c.loop-n.invariant.1 count counts) 0 inside) (c.loop-n.invariant.2 count counts)
          (ap (λ vs. is_big (get_or (get_or (items_of vs) 0 []) c.loop-n.n (Exact 0))) (sym c.as_slice-terms.ensures.value) ∙ sym c.is_first_big.ensures ∙ c.if-is_first_big.true);
    }

pub loop-n-preserved : goal.loop-n-preserved
loop-n-preserved c =
    let lists = items_of c.add_terms.new.series.items in
    let after = c.in_ok-add_terms.ensures.after in
    let inside : 0 < length lists = omega (arith, after.as_many, c.requires.some) in (
      after,
      λ count counts. c.in_ok-add_terms.ensures.shown count counts (c.loop-n.invariant.1 count counts),
      λ count counts. let long = after.long 0 c.requires.some in
          none_more (count 0) (get_or lists 0 []) c.loop-n.n (omega (arith, long)) (c.in_ok-add_terms.ensures.shown count counts (c.loop-n.invariant.1 count counts) 0 inside) (c.loop-n.invariant.2 count counts)
          (ap (λ vs. is_big (get_or (get_or (items_of vs) 0 []) c.loop-n.n (Exact 0))) (sym c.as_slice-terms.ensures.value) ∙ sym c.is_first_big.ensures ∙ c.if-is_first_big.false),
      c.in_ok-add_tails.ensures,
    )

pub add_terms-requires-clause-tails : goal.add_terms-requires-clause-tails
add_terms-requires-clause-tails c = subst (λ vs. AreTails c.args.rows.now (lists_of vs) c.loop-n.n) (sym c.as_slice-kept.ensures.value) c.loop-n.invariant.3

pub add_tails-requires-clause-shown : goal.add_tails-requires-clause-shown
add_tails-requires-clause-shown c = λ count counts. subst (λ vs. AllShow (items_of vs) count) (sym c.as_slice-terms.ensures.value) (c.in_ok-add_terms.ensures.shown count counts (c.loop-n.invariant.1 count counts))

pub returns : goal.returns
returns c =
    record {
      terms = λ count counts.
          let lists = items_of c.loop-n.series.items in
          let at = c.loop-n.invariant.0 in
          let full : c.loop-n.n ≡ c.args.last + 1 = omega (arith, c.loop-n-test.false, c.loop-n.auto.n-end) in
          let inside : 0 < length lists = omega (arith, at.as_many, c.requires.some) in
          c.first_of-2.ensures
          ∙ whole_terms (count 0) (get_or lists 0 []) c.args.last (at.long 0 c.requires.some ∙ full) (c.loop-n.invariant.1 count counts 0 inside) (subst (λ n. NoneBig (count 0) n) full (c.loop-n.invariant.2 count counts));
    }
