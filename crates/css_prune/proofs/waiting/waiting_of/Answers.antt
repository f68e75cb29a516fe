-- Record by record.
use Rattle.std.proofs.Common.{ℕ, List, length, sym, ap, subst, ◌∙◌}
use Rattle.css_prune.specs.Waiting.{AreChained}
use Rattle.css_prune.proofs.Chains.{all_wait_next}
use Rattle.css_prune.proofs.waiting.waiting_of.Goals as goal
use Rattle.lists.proofs.Places.{IsIn-slice_get, some_at, written_back}
use Rattle.css_domain.specs.Records.{IsWithin}

pub wait_all-requires-clause-within : goal.wait_all-requires-clause-within
wait_all-requires-clause-within c =
    let r = c.index-records-place.result in
    let w = c.requires.within r (IsIn-slice_get c.args.records.now c.loop-place.place r (some_at c.args.records.now c.loop-place.place r c.loop-place-test.true c.index-records-place.is)) in
    subst (λ n. IsWithin n r) (sym (ap length c.deref_mut.ensures.value ∙ c.loop-place.invariant.as_many)) w

pub wait_all-requires-clause-short : goal.wait_all-requires-clause-short
wait_all-requires-clause-short c =
    let r = c.index-records-place.result in
    c.requires.short.short r (IsIn-slice_get c.args.records.now c.loop-place.place r (some_at c.args.records.now c.loop-place.place r c.loop-place-test.true c.index-records-place.is))

pub loop-place-preserved : goal.loop-place-preserved
loop-place-preserved c =
    let r = c.index-records-place.result in
    let at = some_at c.args.records.now c.loop-place.place r c.loop-place-test.true c.index-records-place.is in
    let back = written_back c.loop-place.last.len c.wait_all.new.last c.loop-place.last.items c.loop-place.last.ok.0 (c.wait_all.auto.last ∙ ap length c.deref_mut.ensures.value) in
    let ok = c.in_ok-wait_all.ensures in
    let old = subst (λ (xs : List ℕ). AreChained (length c.args.records.now) xs c.loop-place.slots.items) (sym c.deref_mut.ensures.value) c.loop-place.invariant.chained in
    rw back
    (record {
      as_many = c.wait_all.auto.last ∙ ap length c.deref_mut.ensures.value ∙ c.loop-place.invariant.as_many;
      chained = ok.chained (length c.args.records.now) c.loop-place-test.true old;
      all = all_wait_next c.args.records.now c.loop-place.slots.items c.wait_all.new.slots.items c.loop-place.place r at ok.old ok.waits c.loop-place.invariant.all;
    })
