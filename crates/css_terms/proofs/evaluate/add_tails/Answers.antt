-- Row by row.
use Rattle.std.proofs.Common.{◌≡◌, ◌+◌, ◌<◌, [], length, get_or, sym, ap, ◌∙◌, subst, arith}
use Rattle.std.specs.Prelude.{slice_set}
use Rattle.std.proofs.lemmas.List.{length-map, map-set, get_or-map}
use Rattle.std.proofs.lemmas.Option.{slice_get_within}
use Rattle.css_terms.specs.Series.{items_of, lists_of}
use Rattle.css_terms.specs.Rows.{AreTailsOf}
use Rattle.lists.proofs.Places.{some_at}
use Rattle.css_terms.proofs.Evaluation.{tails_grow, tails_set, length-slice_set}
use Rattle.css_terms.proofs.evaluate.add_tails.Goals as goal

pub loop-place-preserved : goal.loop-place-preserved
loop-place-preserved c =
    let rows = c.args.rows.now in
    let vectors = c.loop-place.tails.items in
    let old = lists_of vectors in
    let place = c.loop-place.place in
    let row = c.index-rows-place.result in
    let n = c.args.n in
    let new = items_of c.add_tail.new.tails.items in
    let many = c.loop-place.invariant.0 in
    let inside : place < length vectors = omega (arith, c.loop-place-test.true, many) in
    let all = length-map vectors (λ v. items_of v.items) in
    let at = some_at rows place row c.loop-place-test.true c.index-rows-place.is in
    let own = c.loop-place.invariant.2 place row at (omega arith) in
    let here : get_or old place [] ≡ items_of c.index_mut.result.now.items = get_or-map (λ v. items_of v.items) vectors place c.index_mut.result.now [] inside ∙ ap (λ v. items_of v.items) (sym c.index_mut.ensures.value) in
    let before : AreTailsOf rows row (items_of c.index_mut.result.now.items) n = subst (λ tails. AreTailsOf rows row tails n) here own in
    let short = length-map c.index_mut.result.now.items (λ v. v.items) in
    let long = length-map c.add_tail.new.tails.items (λ v. v.items) in
    let set_is : lists_of (slice_set vectors place c.add_tail.new.tails) ≡ slice_set old place new = map-set (λ v. items_of v.items) vectors place c.add_tail.new.tails in
    let now : AreTailsOf rows row new (n + 1) = record {
      long = λ p. let a = before.long p in let b = c.in_ok-add_tail.ensures.one p in omega (arith, a, b, short, long);
      shown = λ count counts p. tails_grow rows row (items_of c.args.series.now) (items_of c.index_mut.result.now.items) new n count (c.requires.rows place row at) c.requires.series (c.requires.shown count counts) (before.long p) (before.shown count counts p)
          (λ known k shown. rw short (c.in_ok-add_tail.ensures.shown known k p (rw (sym short) shown)));
    } in
    let both = tails_set rows row old new place n (omega (arith, many, all)) (omega (arith, c.loop-place-test.true)) at now c.loop-place.invariant.1 c.loop-place.invariant.2 in
    (length-slice_set vectors place c.add_tail.new.tails ∙ many, rw set_is both.0, rw set_is both.1)

pub returns : goal.returns
returns c =
    let full : c.loop-place.place ≡ length c.args.rows.now = omega (arith, c.loop-place-test.false, c.loop-place.auto.place-end) in
    record {
      as_many = length-map c.loop-place.tails.items (λ v. items_of v.items) ∙ c.loop-place.invariant.0;
      each = λ d row at. c.loop-place.invariant.1 d row at (subst (λ m. d < m) (sym full) (slice_get_within c.args.rows.now d row at));
    }
