-- Slot by slot, from the last one back.
use Rattle.std.proofs.Common.{◌≡◌, ◌-◌, suc, arith, length, subst, sym, ap, ◌∙◌}
use Rattle.std.specs.Prelude.{◌⊎◌}
use Rattle.std.proofs.lemmas.Option.{slice_get_within}
use Rattle.css_prune.specs.declared.waiting.Slot.{Slot}
use Rattle.css_prune.specs.Pruning.{kept}
use Rattle.css_prune.specs.Waiting.{HasClass, WaitsFrom, IsWaiting}
use Rattle.css_prune.proofs.Chains.{none_past_last, from_before, before_below}
use Rattle.css_prune.proofs.InRound.{nothing_tried, put_together, fewer}
use Rattle.css_prune.proofs.round.settle.Goals as goal
use Rattle.lists.proofs.Places.{some_at, index_is}

pub loop-at-init : goal.loop-at-init
loop-at-init c =
    let w = c.requires.waiting in
    let last = c.args.waiting.now.last.items in
    let slots = c.args.waiting.now.slots.items in
    let class = c.args.class in
    let e = index_is last class c.index-at.result.now (some_at last class c.index-at.result.now (omega (arith, c.requires.class, w.as_many)) c.index-at.ensures) in
    record {
      ranks = c.requires.ranks;
      picks = c.requires.picks;
      own = λ i f. w.chained.last_own class i (e ∙ f);
      run = nothing_tried (kept c.args.keep.now) c.args.records.now c.args.done (length c.args.keep.now) c.args.ranks.now c.args.picks.now c.args.next.now.items c.requires.under (WaitsFrom slots class c.index-at.result.now) (λ p k. none_past_last (length c.args.records.now) last slots w.chained class p (subst (λ m. WaitsFrom slots class m p) (sym e) k));
    }

pub index-slot-requires : goal.index-slot-requires
index-slot-requires c =
    let i = c.loop-at.at - 1 in
    let h = c.loop-at.invariant.own i (omega (arith, c.loop-at-test.true)) in
    let w = slice_get_within c.args.waiting.now.slots.items i h.slot h.at in
    omega (arith, w, c.args.waiting.now.slots.ok)

pub try_record-requires-clause-there : goal.try_record-requires-clause-there
try_record-requires-clause-there c =
    let i = c.loop-at.at - 1 in
    let slots = c.args.waiting.now.slots.items in
    let s = c.index-slot.result.now in
    let h = c.loop-at.invariant.own i (omega (arith, c.loop-at-test.true)) in
    let at = some_at slots i s (slice_get_within slots i h.slot h.at) c.index-slot.ensures in
    c.requires.waiting.chained.place i s at

pub try_record-requires-clause-under : goal.try_record-requires-clause-under
try_record-requires-clause-under c = c.loop-at.invariant.run.under

pub loop-at-preserved : goal.loop-at-preserved
loop-at-preserved c =
    let i = c.loop-at.at - 1 in
    let whole : c.loop-at.at ≡ suc i = omega (arith, c.loop-at-test.true) in
    let slots = c.args.waiting.now.slots.items in
    let class = c.args.class in
    let s = c.index-slot.result.now in
    let h = c.loop-at.invariant.own i whole in
    let at = some_at slots i s (slice_get_within slots i h.slot h.at) c.index-slot.ensures in
    let there = h.at in
    let same : h.slot ≡ s = cc in
    let own : s.class ≡ class = sym (ap (λ (t : Slot). t.class) same) ∙ h.own in
    let chained = c.requires.waiting.chained in
    record {
      ranks = omega (arith, c.try_record.auto.ranks, c.loop-at.invariant.ranks);
      picks = omega (arith, c.try_record.auto.picks, c.loop-at.invariant.picks);
      own = λ j e. subst (λ d. HasClass slots j d) own (chained.before_own i j s at e);
      run = put_together (kept c.args.keep.now) c.args.records.now c.args.done (length c.args.keep.now) (WaitsFrom slots class c.loop-at.at) (λ p. p ≡ s.place) (WaitsFrom slots class s.before)
          (λ p k. subst (λ m. WaitsFrom slots class m p ⊎ (p ≡ s.place)) (sym whole) (from_before (length c.args.records.now) c.args.waiting.now.last.items slots chained class i p s at own k))
          c.args.ranks.now c.args.picks.now c.args.next.now.items c.loop-at.ranks c.loop-at.picks c.loop-at.next.items c.try_record.new.ranks c.try_record.new.picks c.try_record.new.next.items
          c.loop-at.invariant.run c.in_ok-try_record.ensures;
    }

pub loop-at-smaller : goal.loop-at-smaller
loop-at-smaller c =
    let i = c.loop-at.at - 1 in
    let slots = c.args.waiting.now.slots.items in
    let s = c.index-slot.result.now in
    let h = c.loop-at.invariant.own i (omega (arith, c.loop-at-test.true)) in
    let at = some_at slots i s (slice_get_within slots i h.slot h.at) c.index-slot.ensures in
    let b = before_below (length c.args.records.now) c.args.waiting.now.last.items slots c.requires.waiting.chained i s at in
    omega (arith, b, c.loop-at-test.true)

pub returns : goal.returns
returns c =
    let slots = c.args.waiting.now.slots.items in
    fewer (kept c.args.keep.now) c.args.records.now c.args.done (length c.args.keep.now) (WaitsFrom slots c.args.class c.loop-at.at) (λ p. IsWaiting slots c.args.class p)
    (λ p k. record { i = k.i; slot = k.slot; at = k.at; own = k.own; by_place = k.by_place; past = omega (arith, c.loop-at-test.false) })
    c.args.ranks.now c.args.picks.now c.args.next.now.items c.loop-at.ranks c.loop-at.picks c.loop-at.next.items c.loop-at.invariant.run
