-- Class by class.
use Rattle.std.proofs.Common.{◌≡◌, ◌+◌, suc, ℕ, List, arith, length, take, subst, sym}
use Rattle.std.specs.Prelude.{◌⊎◌, slice_index}
use Rattle.css_prune.specs.Pruning.{kept}
use Rattle.css_prune.specs.Waiting.{WaitsForOne, IsWaiting}
use Rattle.css_prune.proofs.Chains.{one_class_more, none_waits_for_none}
use Rattle.css_prune.proofs.InRound.{nothing_tried, put_together, fewer}
use Rattle.css_prune.proofs.round.settle_all.Goals as goal
use Rattle.lists.proofs.Places.{IsIn-slice_get, index_is, at_place, take_whole}

pub loop-place-init : goal.loop-place-init
loop-place-init c =
    record {
      ranks = c.requires.ranks;
      picks = c.requires.picks;
      run = nothing_tried (kept c.args.keep.now) c.args.records.now c.args.done (length c.args.keep.now) c.args.ranks.now c.args.picks.now c.args.next.now.items c.requires.under (WaitsForOne c.args.waiting.now.slots.items (take 0 c.args.classes.now)) (none_waits_for_none c.args.waiting.now.slots.items);
    }

pub settle-requires-clause-class : goal.settle-requires-clause-class
settle-requires-clause-class c =
    let a = at_place c.args.classes.now c.loop-place.place c.loop-place-test.true in
    let e = index_is c.args.classes.now c.loop-place.place a.0 a.1 in
    let small = c.requires.classes a.0 (IsIn-slice_get c.args.classes.now c.loop-place.place a.0 a.1) in
    omega (arith, e, small)

pub settle-requires-clause-under : goal.settle-requires-clause-under
settle-requires-clause-under c = c.loop-place.invariant.run.under

pub loop-place-preserved : goal.loop-place-preserved
loop-place-preserved c =
    let i = c.loop-place.place in
    let slots = c.args.waiting.now.slots.items in
    let classes = c.args.classes.now in
    let a = at_place classes i c.loop-place-test.true in
    let e = index_is classes i a.0 a.1 in
    let next : i + 1 ≡ suc i = omega arith in
    record {
      ranks = omega (arith, c.settle.auto.ranks, c.loop-place.invariant.ranks);
      picks = omega (arith, c.settle.auto.picks, c.loop-place.invariant.picks);
      run = put_together (kept c.args.keep.now) c.args.records.now c.args.done (length c.args.keep.now) (WaitsForOne slots (take i classes)) (λ p. IsWaiting slots (slice_index classes i) p) (WaitsForOne slots (take (i + 1) classes))
          (λ p w. subst (λ d. WaitsForOne slots (take i classes) p ⊎ IsWaiting slots d p) (sym e) (one_class_more slots classes i a.0 p a.1 (subst (λ k. WaitsForOne slots (take k classes) p) next w)))
          c.args.ranks.now c.args.picks.now c.args.next.now.items c.loop-place.ranks c.loop-place.picks c.loop-place.next.items c.settle.new.ranks c.settle.new.picks c.settle.new.next.items
          c.loop-place.invariant.run c.in_ok-settle.ensures;
    }

pub returns : goal.returns
returns c =
    let classes = c.args.classes.now in
    let e : c.loop-place.place ≡ length classes = omega (arith, c.loop-place-test.false, c.loop-place.auto.place-end) in
    fewer (kept c.args.keep.now) c.args.records.now c.args.done (length c.args.keep.now) (WaitsForOne c.args.waiting.now.slots.items (take c.loop-place.place classes)) (WaitsForOne c.args.waiting.now.slots.items classes)
    (λ p w. subst (λ k. WaitsForOne c.args.waiting.now.slots.items (take k classes) p) (sym e) (subst (λ (xs : List ℕ). WaitsForOne c.args.waiting.now.slots.items xs p) (sym (take_whole classes)) w))
    c.args.ranks.now c.args.picks.now c.args.next.now.items c.loop-place.ranks c.loop-place.picks c.loop-place.next.items c.loop-place.invariant.run
