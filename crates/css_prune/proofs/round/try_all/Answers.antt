-- Record by record.
use Rattle.std.proofs.Common.{◌≡◌, ◌<◌, ◌+◌, arith, length}
use Rattle.css_prune.specs.Pruning.{kept}
use Rattle.css_prune.proofs.InRound.{nothing_tried, put_together, fewer}
use Rattle.css_prune.proofs.round.try_all.Goals as goal
use Rattle.lists.proofs.Numbers.{less_or_whole}

pub loop-place-init : goal.loop-place-init
loop-place-init c =
    record {
      ranks = c.requires.ranks;
      picks = c.requires.picks;
      run = nothing_tried (kept c.args.keep.now) c.args.records.now c.args.done (length c.args.keep.now) c.args.ranks.now c.args.picks.now c.args.next.now.items c.requires.under (λ p. p < 0) (λ p l. omega (arith, l));
    }

pub try_record-requires-clause-under : goal.try_record-requires-clause-under
try_record-requires-clause-under c = c.loop-place.invariant.run.under

pub loop-place-preserved : goal.loop-place-preserved
loop-place-preserved c =
    let i = c.loop-place.place in
    record {
      ranks = omega (arith, c.try_record.auto.ranks, c.loop-place.invariant.ranks);
      picks = omega (arith, c.try_record.auto.picks, c.loop-place.invariant.picks);
      run = put_together (kept c.args.keep.now) c.args.records.now c.args.done (length c.args.keep.now) (λ p. p < i) (λ p. p ≡ i) (λ p. p < i + 1) (λ p l. less_or_whole p i (omega (arith, l)))
          c.args.ranks.now c.args.picks.now c.args.next.now.items c.loop-place.ranks c.loop-place.picks c.loop-place.next.items c.try_record.new.ranks c.try_record.new.picks c.try_record.new.next.items
          c.loop-place.invariant.run c.in_ok-try_record.ensures;
    }

pub returns : goal.returns
returns c =
    fewer (kept c.args.keep.now) c.args.records.now c.args.done (length c.args.keep.now) (λ p. p < c.loop-place.place) (λ p. p < length c.args.records.now) (λ p l. omega (arith, l, c.loop-place-test.false, c.loop-place.auto.place-end))
    c.args.ranks.now c.args.picks.now c.args.next.now.items c.loop-place.ranks c.loop-place.picks c.loop-place.next.items c.loop-place.invariant.run
