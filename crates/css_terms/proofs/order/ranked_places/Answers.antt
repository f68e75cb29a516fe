-- The next row is placed.
use Rattle.std.proofs.Common.{◌≡◌, ◌+◌, ◌∷◌, [], ◌++◌, take, sym, ap, ◌∙◌, arith}
use Rattle.css_terms.proofs.RankOrder.{ranked_more}
use Rattle.css_terms.specs.Rows.{ranked_from}
use Rattle.css_terms.proofs.order.ranked_places.Goals as goal
use Rattle.lists.proofs.Places.{some_at}

pub loop-place-preserved : goal.loop-place-preserved
loop-place-preserved c =
    let zero_more : 0 + c.loop-place.place ≡ c.loop-place.place = omega arith in
    let here = some_at c.args.rows.now c.loop-place.place c.index-rows-place.result c.loop-place-test.true c.index-rows-place.is in
    c.in_ok-push.ensures.items
    ∙ ap (λ xs. xs ++ (c.index-rows-place.result.rank, c.loop-place.place) ∷ []) c.loop-place.invariant
    ∙ sym (ranked_more 0 c.loop-place.place c.args.rows.now c.index-rows-place.result here ∙ ap (λ i. ranked_from 0 (take c.loop-place.place c.args.rows.now) ++ (c.index-rows-place.result.rank, i) ∷ []) zero_more)
