use Rattle.std.proofs.Common.{arith}
use Rattle.rule_kinds.specs.Choices.{is_bound}
use Rattle.separation.proofs.Listing.{next_closure, all_closures}
use Rattle.separation.proofs.least.proper_closures.Goals as goal

pub loop-place-preserved : goal.loop-place-preserved
loop-place-preserved c =
    next_closure (is_bound c.args.axis c.args.tiling.now) c.args.whole c.args.axis c.args.line c.loop-place.place c.cell_on-cell.result c.loop-place.sets.items c.add_closure.new.sets.items c.cell_on-cell.ensures.value c.loop-place.invariant c.in_ok-add_closure.ensures

pub returns : goal.returns
returns c =
    let past = c.loop-place-test.false in
    let most = c.loop-place.auto.place-end in
    all_closures (is_bound c.args.axis c.args.tiling.now) c.args.whole c.args.axis c.args.line c.loop-place.place c.loop-place.sets.items c.requires.low (omega arith) c.requires.of_line c.loop-place.invariant
