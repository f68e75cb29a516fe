use Rattle.std.proofs.Common.{sym, arith}
use Rattle.separation.proofs.Reaching.{reached, none_reached, none_at}
use Rattle.separation.proofs.bound.is_reached.Goals as goal

pub loop-place-preserved : goal.loop-place-preserved
loop-place-preserved c =
    λ k l. none_at c.args.axis c.args.line c.args.tiling.now c.args.set c.cell_on.result c.args.other c.binds.result k c.loop-place.place c.binds.ensures c.if-binds.false c.cell_on.ensures.value l c.loop-place.invariant

pub returns-then-binds : goal.returns-then-binds
returns-then-binds c = sym (reached c.args.axis c.args.tiling.now c.args.set c.cell_on.result c.args.other c.binds.result c.binds.ensures c.if-binds.true)

pub returns : goal.returns
returns c =
    let past = c.loop-place-test.false in
    sym (none_reached c.args.axis c.args.line c.args.tiling.now c.args.set c.args.other c.requires.of_line (λ k l. c.loop-place.invariant k (omega arith)))
