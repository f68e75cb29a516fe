-- The first round tries all records, a later one those that wait for a class of the round before.
use Rattle.std.proofs.Common.{length, arith}
use Rattle.std.proofs.lemmas.Option.{slice_get_within}
use Rattle.css_prune.specs.Pruning.{kept}
use Rattle.css_prune.proofs.InRound.{begins, ends}
use Rattle.css_prune.proofs.Fresh.{later}
use Rattle.css_prune.proofs.round.run_round.Goals as goal
use Rattle.css_prune.proofs.round.run_round.Goals.{then-done-eq0+in_ok-try_all, else-done-eq0+in_ok-settle_all}

pub try_all-requires-clause-under : goal.try_all-requires-clause-under
try_all-requires-clause-under c = rw c.new-next.ensures.items (begins (kept c.args.keep.now) c.args.records.now c.args.done (length c.args.keep.now) c.args.ranks.now c.args.picks.now c.requires.before)

pub settle_all-requires-clause-under : goal.settle_all-requires-clause-under
settle_all-requires-clause-under c = rw c.new-next.ensures.items (begins (kept c.args.keep.now) c.args.records.now c.args.done (length c.args.keep.now) c.args.ranks.now c.args.picks.now c.requires.before)

pub returns-clause-after : goal.returns-clause-after
returns-clause-after c =
    let K = kept c.args.keep.now in
    let records = c.args.records.now in
    let n = c.args.done in
    let classes = length c.args.keep.now in
    elim c.if-done-eq0.branch [
      | then-done-eq0+in_ok-try_all w ↦
          let run = w.in_ok-try_all.ensures in
          rw (w.ranks-is, w.picks-is) (ends K records n classes w.try_all.new.ranks w.try_all.new.picks w.try_all.new.next.items run.under (λ d p r at none gift. run.tried p (slice_get_within records p r at)))
      | else-done-eq0+in_ok-settle_all w ↦
          let run = w.in_ok-settle_all.ensures in
          rw (w.ranks-is, w.picks-is)
          (ends K records n classes w.settle_all.new.ranks w.settle_all.new.picks w.settle_all.new.next.items run.under
          (λ d p r at none gift. run.tried p (later K records n d p r at none gift c.args.waiting.now.slots.items c.args.fresh.now c.args.ranks.now w.if-done-eq0.false c.requires.waiting.all (c.requires.fresh (omega (arith, w.if-done-eq0.false))) c.requires.before.ranked)))
    ]
