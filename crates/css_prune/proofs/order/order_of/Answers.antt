-- Place by place.
use Rattle.std.proofs.Common.{◌<◌, ℕ, Bool, length, sym, ap, subst, ◌∙◌, arith}
use Rattle.std.specs.Prelude.{map, slice_index, nat_eq}
use Rattle.std.proofs.Common.{List}
use Rattle.std.proofs.lemmas.List.{length-map}
use Rattle.css_prune.specs.Pruning.{kept}
use Rattle.css_prune.specs.Places.{calls}
use Rattle.css_prune.proofs.Placed.{order_stops}
use Rattle.css_prune.proofs.Guided.{no_places, small_at, pick_small, child_small, next_order}
use Rattle.css_prune.proofs.order.order_of.Goals as goal
use Rattle.lists.specs.Added.{with_all_new}
use Rattle.lists.proofs.Places.{written_back, some_at}

pub add_child-requires-clause-places : goal.add_child-requires-clause-places
add_child-requires-clause-places c = no_places c.new-order.result.items c.deref_mut.result.now (length c.args.keep.now) c.new-order.ensures.items (c.deref_mut.ensures.value ∙ c.in_ok-places.ensures.items_if_clones_equal (λ y e. e))

pub returns-then-place-len-clause-order : goal.returns-then-place-len-clause-order
returns-then-place-len-clause-order c =
    let i = c.loop-place.invariant.order in
    let e = order_stops c.args.root (calls c.args.records.now c.args.picks.now) c.loop-place.place (omega (arith, ap length i, c.len.ensures, c.loop-place.order.ok, c.if-place-len.true)) (length c.args.keep.now) (omega (arith, c.loop-place-test.true)) in
    i ∙ sym e

pub bounds-picks-class : goal.bounds-picks-class
bounds-picks-class c =
    let at = some_at c.loop-place.order.items c.loop-place.place c.index-class.result.now (omega (arith, c.len.ensures, c.loop-place.order.ok, c.if-place-len.false)) c.index-class.ensures in
    let s = small_at (kept c.args.keep.now) c.args.records.now c.args.picks.now (length c.args.keep.now) c.requires.guide c.args.root c.requires.root c.loop-place.order.items c.loop-place.place c.loop-place.invariant.order c.index-class.result.now at in
    omega (arith, s, c.requires.picks)

pub bounds-records-picks : goal.bounds-records-picks
bounds-records-picks c =
    let at = some_at c.loop-place.order.items c.loop-place.place c.index-class.result.now (omega (arith, c.len.ensures, c.loop-place.order.ok, c.if-place-len.false)) c.index-class.ensures in
    pick_small (kept c.args.keep.now) c.args.records.now c.args.picks.now (length c.args.keep.now) c.requires.guide c.args.root c.requires.root c.loop-place.order.items c.loop-place.place c.loop-place.invariant.order c.index-class.result.now at

pub add_children-requires-clause-below : goal.add_children-requires-clause-below
add_children-requires-clause-below c =
    let at = some_at c.loop-place.order.items c.loop-place.place c.index-class.result.now (omega (arith, c.len.ensures, c.loop-place.order.ok, c.if-place-len.false)) c.index-class.ensures in
    let small = pick_small (kept c.args.keep.now) c.args.records.now c.args.picks.now (length c.args.keep.now) c.requires.guide c.args.root c.requires.root c.loop-place.order.items c.loop-place.place c.loop-place.invariant.order c.index-class.result.now at in
    let r = c.index-records-picks.result in
    let there = some_at c.args.records.now (slice_index c.args.picks.now c.index-class.result.now) r small c.index-records-picks.is in
    let f = child_small (kept c.args.keep.now) c.args.records.now c.args.picks.now (length c.args.keep.now) c.requires.guide c.args.root c.requires.root c.loop-place.order.items c.loop-place.place c.loop-place.invariant.order c.index-class.result.now at r there in
    let many = ap length c.deref_mut-in-loop-place.ensures.value ∙ c.loop-place.invariant.as_many in
    λ slot h.
    let k = subst (λ (xs : List (ℕ × Bool)). slot < length (map (λ (x : ℕ × Bool). x.0) xs)) c.as_slice.ensures (let l = length-map c.as_slice.result.now (λ (x : ℕ × Bool). x.0) in omega (arith, h, l)) in
    let e = ap (λ (xs : List (ℕ × Bool)). slice_index (map (λ (x : ℕ × Bool). x.0) xs) slot) c.as_slice.ensures in
    omega (arith, f slot k, e, many)

pub loop-place-preserved : goal.loop-place-preserved
loop-place-preserved c =
    let at = some_at c.loop-place.order.items c.loop-place.place c.index-class.result.now (omega (arith, c.len.ensures, c.loop-place.order.ok, c.if-place-len.false)) c.index-class.ensures in
    let small = pick_small (kept c.args.keep.now) c.args.records.now c.args.picks.now (length c.args.keep.now) c.requires.guide c.args.root c.requires.root c.loop-place.order.items c.loop-place.place c.loop-place.invariant.order c.index-class.result.now at in
    let r = c.index-records-picks.result in
    let there = some_at c.args.records.now (slice_index c.args.picks.now c.index-class.result.now) r small c.index-records-picks.is in
    let many = c.add_children.auto.places ∙ ap length c.deref_mut-in-loop-place.ensures.value in
    let back = written_back c.loop-place.places.len c.add_children.new.places c.loop-place.places.items c.loop-place.places.ok.0 many in
    let e = c.in_ok-add_children.ensures in
    record {
      as_many = ap length back ∙ many ∙ c.loop-place.invariant.as_many;
      order = next_order (kept c.args.keep.now) c.args.records.now c.args.picks.now (length c.args.keep.now) c.requires.guide c.args.root c.requires.root c.loop-place.order.items c.loop-place.place c.loop-place.invariant.order c.index-class.result.now at r there c.add_children.new.order.items (e.order ∙ ap (λ (xs : List (ℕ × Bool)). with_all_new nat_eq c.loop-place.order.items (map (λ (x : ℕ × Bool). x.0) xs)) c.as_slice.ensures);
      places = rw back e.places;
    }
