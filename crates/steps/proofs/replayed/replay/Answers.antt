use Rattle.std.proofs.Common.{refl}
use Rattle.std.proofs.lemmas.List.{take_all}
use Rattle.steps.proofs.Replays.{replay_more, members_more, keeps_itself}
use Rattle.steps.proofs.replayed.replay.Goals as goal

pub loop-at-init : goal.loop-at-init
loop-at-init c = record { made = refl; members = keeps_itself c.args.tiling }

pub loop-at-preserved : goal.loop-at-preserved
loop-at-preserved c = record {
  made = replay_more c.args.tiling c.loop-at.reached c.in-Ok.next c.args.trace.now c.loop-at.at _ c.loop-at-test.true c.loop-at.invariant.made c.in-Ok.ensures.applied c.in-Ok.ensures.made;
  members = members_more c.args.tiling c.loop-at.reached c.in-Ok.next c.args.trace.now c.loop-at.at _ c.loop-at-test.true c.loop-at.invariant.members c.in-Ok.ensures.members;
}

pub returns : goal.returns
returns c =
    let whole = take_all c.loop-at.at c.args.trace.now c.loop-at-test.false in
    record { made = rw whole at c.loop-at.invariant.made; refused = tt; members = rw whole at c.loop-at.invariant.members }
