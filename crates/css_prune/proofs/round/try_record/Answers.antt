-- The record's step.
use Rattle.std.proofs.Common.{◌≡◌, ◌<◌, ◌+◌, suc, length, arith, subst, ⊎_elim}
use Rattle.css_prune.specs.Pruning.{kept}
use Rattle.css_prune.specs.Marks.{IsGiven, IsBetter, IsSkipped}
use Rattle.css_prune.specs.InRound.{IsRun}
use Rattle.css_prune.proofs.OneRecord.{given, better, skipped}
use Rattle.css_prune.proofs.round.try_record.Goals as goal
use Rattle.lists.proofs.Places.{IsIn-slice_get, some_at}

pub give-requires-clause-within : goal.give-requires-clause-within
give-requires-clause-within c =
    c.requires.within c.index-records-place.result (IsIn-slice_get c.args.records.now c.args.place c.index-records-place.result (some_at c.args.records.now c.args.place c.index-records-place.result c.requires.there c.index-records-place.is))

pub give-requires-clause-short : goal.give-requires-clause-short
give-requires-clause-short c =
    c.requires.short.short c.index-records-place.result (IsIn-slice_get c.args.records.now c.args.place c.index-records-place.result (some_at c.args.records.now c.args.place c.index-records-place.result c.requires.there c.index-records-place.is))

pub returns-in_ok-push : goal.returns-in_ok-push
returns-in_ok-push c =
    let K = kept c.args.keep.now in
    let r = c.index-records-place.result in
    let at = some_at c.args.records.now c.args.place r c.requires.there c.index-records-place.is in
    let within = c.requires.within r (IsIn-slice_get c.args.records.now c.args.place r at) in
    let in_ranks : r.parent < length c.args.ranks.now = omega (arith, within.own, c.requires.ranks) in
    let in_picks : r.parent < length c.args.picks.now = omega (arith, within.own, c.requires.picks) in
    let next : c.args.done + 1 ≡ suc c.args.done = omega arith in
    let step = subst (λ m. IsGiven K m c.args.place r c.args.ranks.now c.args.picks.now c.give.new.ranks c.give.new.picks) next (c.give.ensures.given c.if-give.true) in
    rw c.in_ok-push.ensures.items (given K c.args.records.now c.args.done (length c.args.keep.now) c.args.ranks.now c.args.picks.now c.args.next.now.items c.requires.under c.args.place r at in_picks in_ranks within.own c.give.new.ranks c.give.new.picks step)

pub returns-else-give : goal.returns-else-give
returns-else-give c =
    let K = kept c.args.keep.now in
    let r = c.index-records-place.result in
    let at = some_at c.args.records.now c.args.place r c.requires.there c.index-records-place.is in
    let within = c.requires.within r (IsIn-slice_get c.args.records.now c.args.place r at) in
    let in_picks : r.parent < length c.args.picks.now = omega (arith, within.own, c.requires.picks) in
    let next : c.args.done + 1 ≡ suc c.args.done = omega arith in
    ⊎_elim {C = IsRun K c.args.records.now c.args.done (length c.args.keep.now) (λ p. p ≡ c.args.place) c.args.ranks.now c.args.picks.now c.args.next.now.items c.give.new.ranks c.give.new.picks c.args.next.now.items}
    (λ s. better K c.args.records.now c.args.done (length c.args.keep.now) c.args.ranks.now c.args.picks.now c.args.next.now.items c.requires.under c.args.place r at in_picks c.give.new.ranks c.give.new.picks (subst (λ m. IsBetter K m c.args.place r c.args.ranks.now c.args.picks.now c.give.new.ranks c.give.new.picks) next s))
    (λ s. skipped K c.args.records.now c.args.done (length c.args.keep.now) c.args.ranks.now c.args.picks.now c.args.next.now.items c.requires.under c.args.place r at c.give.new.ranks c.give.new.picks (subst (λ m. IsSkipped K m c.args.place r c.args.ranks.now c.args.picks.now c.give.new.ranks c.give.new.picks) next s))
    (c.give.ensures.left c.if-give.false)
