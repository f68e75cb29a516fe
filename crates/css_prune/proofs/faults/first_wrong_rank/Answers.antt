use Rattle.std.proofs.Common.{List, ℕ, get_or, sym, ap, ◌∙◌, arith}
use Rattle.std.specs.Prelude.{Some}
use Rattle.css_domain.specs.Entries.{Entry}
use Rattle.css_prune.specs.Faults.{AreRanksRight}
use Rattle.css_prune.proofs.FirstFaults.{before_more, number_at}
use Rattle.css_prune.proofs.faults.first_wrong_rank.Goals as goal
use Rattle.lists.proofs.Places.{some_at}

pub first_wrong_slot-requires-clause-as_many : goal.first_wrong_slot-requires-clause-as_many
first_wrong_slot-requires-clause-as_many g c =
    let at = some_at c.args.entries.now c.loop-place.place c.index-entries-place.result c.loop-place-test.true c.index-entries-place.is in
    λ κs l. (c.requires.right c.loop-place.place c.index-entries-place.result c.loop-place-test.true at).as_many

pub first_wrong_slot-requires-clause-matched : goal.first_wrong_slot-requires-clause-matched
first_wrong_slot-requires-clause-matched g c =
    let at = some_at c.args.entries.now c.loop-place.place c.index-entries-place.result c.loop-place-test.true c.index-entries-place.is in
    λ κs l. (c.requires.right c.loop-place.place c.index-entries-place.result c.loop-place-test.true at).child

pub returns-in-Some-clause-some : goal.returns-in-Some-clause-some
returns-in-Some-clause-some g c =
    let slot = c.in-Some.slot in
    let entry = c.index-entries-place.result in
    let named = sym (c.as_slice.ensures ∙ ap (λ (e : Entry g.row.D-Class.Denot g.row.D-Rule.Denot). e.children) c.entry.view_is) in
    record {
      entry = entry;
      at = some_at c.args.entries.now c.loop-place.place entry c.loop-place-test.true c.index-entries-place.is;
      slot = slot;
      first = c.in-Some.ensures.some;
      names = number_at entry.children slot c.in-Some.ensures.some.within ∙ ap (λ (xs : List ℕ). Some (get_or xs slot 0)) named;
      before = c.loop-place.invariant;
    }

pub loop-place-preserved : goal.loop-place-preserved
loop-place-preserved g c =
    before_more (AreRanksRight g.D.Domain.meaning c.args.entries.now) c.args.entries.now c.loop-place.place c.index-entries-place.result
    (some_at c.args.entries.now c.loop-place.place c.index-entries-place.result c.loop-place-test.true c.index-entries-place.is)
    c.in_default.ensures.none c.loop-place.invariant

pub returns-clause-none : goal.returns-clause-none
returns-clause-none g c = λ j x l at. c.loop-place.invariant j x (omega (arith, l, c.loop-place-test.false)) at
