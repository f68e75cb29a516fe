-- What stands is never dropped, and the end is where nothing is.
use Rattle.std.proofs.Common.{arith, subst, length, ap, ◌∙◌, List, Bool, true}
use Rattle.std.proofs.lemmas.List.{get_or-replicate}
use Rattle.css_prune.specs.Pruning.{kept}
use Rattle.css_prune.specs.Marks.{AreDropped, AreRanks}
use Rattle.css_prune.proofs.Drops.{stands_below, still_all, answered, none_elsewhere}
use Rattle.css_prune.proofs.pruned.standing_among.Goals as goal
use Rattle.lists.proofs.Places.{written_back}

pub loop-keep-init : goal.loop-keep-init
loop-keep-init c =
    let items = c.in_ok-keep.ensures.items_if_clones_equal (λ y e. e) in
    record {
      as_many = omega (arith, c.in_ok-keep.ensures.len, c.in_ok-keep.keep.ok);
      all = λ d s. rw items (get_or-replicate c.args.classes d true _ (stands_below c.args.classes c.args.records.now c.requires.within d s));
    }

pub returns-then-not-drop_unranked : goal.returns-then-not-drop_unranked
returns-then-not-drop_unranked c =
    let old = c.loop-keep.keep.items in
    let ranks = c.in_ok-ranks.field-0.ranks.items in
    let picks = c.in_ok-ranks.field-0.picks.items in
    let back = written_back c.loop-keep.keep.len c.drop_unranked.new.keep old c.loop-keep.keep.ok.0 (c.drop_unranked.auto.keep ∙ ap length c.deref_mut.ensures.value) in
    let e = c.in_ok-ranks.ensures in
    let slice = c.as_slice.ensures.value in
    let many = ap length slice ∙ c.loop-keep.invariant.as_many in
    let are = subst (λ (xs : List Bool). AreRanks (kept xs) c.args.records.now ranks picks) slice e.are in
    let same = c.drop_unranked.ensures.same c.if-not-drop_unranked.true ∙ c.deref_mut.ensures.value in
    let dropped = rw (c.as_slice-in-loop-keep.ensures.value, c.deref_mut.ensures.value) at (c.drop_unranked.ensures.kept) in
    let unchanged = subst (λ (xs : List Bool). AreDropped ranks old xs) same dropped in
    let is = answered c.args.classes c.args.records.now c.requires.within old ranks picks are c.loop-keep.invariant.all c.pruned_of.result _ c.pruned_of.ensures (back ∙ same) c.loop-keep.invariant.as_many (e.ranks ∙ many) (e.picks ∙ many) unchanged in
    record { as_many = is.as_many; standing = is.standing; ranked = is.ranked; picked = is.picked; none_elsewhere = none_elsewhere c.args.records.now c.args.classes c.pruned_of.result is }

pub loop-keep-preserved : goal.loop-keep-preserved
loop-keep-preserved c =
    let old = c.loop-keep.keep.items in
    let ranks = c.in_ok-ranks.field-0.ranks.items in
    let picks = c.in_ok-ranks.field-0.picks.items in
    let back = written_back c.loop-keep.keep.len c.drop_unranked.new.keep old c.loop-keep.keep.ok.0 (c.drop_unranked.auto.keep ∙ ap length c.deref_mut.ensures.value) in
    let e = c.in_ok-ranks.ensures in
    let are = subst (λ (xs : List Bool). AreRanks (kept xs) c.args.records.now ranks picks) c.as_slice.ensures.value e.are in
    let dropped = rw (c.as_slice-in-loop-keep.ensures.value, c.deref_mut.ensures.value) at (c.drop_unranked.ensures.kept) in
    rw back (record { as_many = dropped.as_many ∙ c.loop-keep.invariant.as_many; all = still_all c.args.classes c.args.records.now c.requires.within old ranks picks are c.loop-keep.invariant.all c.drop_unranked.new.keep dropped })
