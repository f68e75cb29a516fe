use Rattle.work_packs.proofs.Repeats.{no_repeat_here, repeat_here, none_left}
use Rattle.work_packs.proofs.pack.has_no_repeats.Goals as goal

pub loop-place-preserved : goal.loop-place-preserved
loop-place-preserved c = no_repeat_here c.args.bytes.now c.loop-place.place c.has.result c.loop-place-test.true c.has.ensures c.if-has.false c.loop-place.invariant

pub returns-then-has : goal.returns-then-has
returns-then-has c = repeat_here c.args.bytes.now c.loop-place.place c.has.result c.loop-place-test.true c.has.ensures c.if-has.true c.loop-place.invariant

pub returns : goal.returns
returns c = none_left c.args.bytes.now c.loop-place.place c.loop-place-test.false c.loop-place.invariant
