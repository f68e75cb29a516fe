-- Each row follows those of smaller ranks.
use Rattle.std.proofs.Common.{◌≡◌, length, sym, ◌∙◌, subst, arith}
use Rattle.std.proofs.lemmas.List.{length-map}
use Rattle.std.proofs.lemmas.Option.{slice_get_within}
use Rattle.css_terms.specs.Series.{items_of}
use Rattle.css_terms.proofs.Passes.{AreDone, place_of, lower_done, all_done, more_done}
use Rattle.css_terms.proofs.evaluate.add_terms.Goals as goal

pub add_term-requires-clause-within : goal.add_term-requires-clause-within
add_term-requires-clause-within c = let p = place_of c.args.rows.now c.args.order.now c.requires.order c.loop-pair.pair-index c.loop-pair-test.true in slice_get_within c.args.rows.now _ p.0 p.1

pub add_term-requires-clause-lower : goal.add_term-requires-clause-lower
add_term-requires-clause-lower c = lower_done c.args.rows.now c.args.order.now c.requires.order (items_of c.loop-pair.series.items) c.loop-pair.pair-index c.args.n c.loop-pair-test.true c.loop-pair.invariant.2

pub loop-pair-preserved : goal.loop-pair-preserved
loop-pair-preserved c =
    let e = c.in_ok-add_term.ensures in
    let many = length-map c.add_term.new.series.items (λ v. v.items) in (
      sym many ∙ e.as_many,
      e.near,
      more_done c.args.rows.now c.args.order.now (items_of c.loop-pair.series.items) (items_of c.add_term.new.series.items) c.loop-pair.pair-index c.args.n c.loop-pair.invariant.2 e,
      λ count counts shown. e.shown count counts (c.loop-pair.invariant.3 count counts shown),
    )

pub returns-clause-after : goal.returns-clause-after
returns-clause-after c =
    let many = length-map c.loop-pair.series.items (λ v. v.items) in
    let full : c.loop-pair.pair-index ≡ length c.args.order.now = omega (arith, c.loop-pair-test.false, c.loop-pair.auto.pair-index-end) in
    all_done c.args.rows.now c.args.order.now c.requires.order (items_of c.loop-pair.series.items) c.args.n (many ∙ c.loop-pair.invariant.0) c.loop-pair.invariant.1
    (subst (λ i. AreDone (items_of c.loop-pair.series.items) c.args.order.now i c.args.n) full c.loop-pair.invariant.2)
