use Rattle.std.proofs.Common.{◌∙◌, arith}
use Rattle.separation.proofs.Listing.{no_lines, next_line, all_lines, are_least}
use Rattle.separation.proofs.least.cuts_along.Goals as goal

pub returns-then-lines-gt7-clause-listed : goal.returns-then-lines-gt7-clause-listed
returns-then-lines-gt7-clause-listed c =
    let value = c.lines-lines.ensures.value in
    let many = c.if-lines-gt7.true in
    c.new-kinds.ensures.items ∙ no_lines c.args.axis c.args.tiling.now (omega arith)

pub returns-then-lines-gt7-clause-least : goal.returns-then-lines-gt7-clause-least
returns-then-lines-gt7-clause-least c =
    let value = c.lines-lines.ensures.value in
    let many = c.if-lines-gt7.true in
    are_least c.args.axis c.args.tiling.now c.closures_come_first.ensures c.new-kinds.result.items (c.new-kinds.ensures.items ∙ no_lines c.args.axis c.args.tiling.now (omega arith))

pub loop-line-preserved : goal.loop-line-preserved
loop-line-preserved c = next_line c.args.axis c.args.tiling.now c.loop-line.line c.loop-line.kinds.items c.add_cuts.new.kinds.items c.loop-line.invariant c.in_ok-add_cuts.ensures

pub returns : goal.returns
returns c =
    let value = c.lines-lines.ensures.value in
    let past = c.loop-line-test.false in
    let most = c.loop-line.auto.line-end in
    let listed = all_lines c.args.axis c.args.tiling.now c.loop-line.line c.loop-line.kinds.items (omega arith) c.loop-line.invariant in
    record { listed = listed; least = are_least c.args.axis c.args.tiling.now c.closures_come_first.ensures c.loop-line.kinds.items listed }
