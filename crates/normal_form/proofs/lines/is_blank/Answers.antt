use Rattle.normal_form.proofs.UsedLines.{line_below, beyond_is_not_blank, within_is_unused}
use Rattle.normal_form.proofs.lines.is_blank.Goals as goal

pub meets-requires : goal.meets-requires
meets-requires c = line_below c.args.axis c.args.line c.args.tiling.now c.read.ensures.narrow c.read.ensures.low (rw (← c.width.ensures.value, ← c.height.ensures.value) (rw c.line.ensures at c.if-line.false))

pub returns-then-line : goal.returns-then-line
returns-then-line c = beyond_is_not_blank c.args.axis c.args.line c.args.tiling.now (rw (← c.width.ensures.value, ← c.height.ensures.value) (rw c.line.ensures at c.if-line.true))

pub returns : goal.returns
returns c = within_is_unused c.args.axis c.args.line c.args.tiling.now c.args.used c.meets.result c.requires (rw (← c.width.ensures.value, ← c.height.ensures.value) (rw c.line.ensures at c.if-line.false)) c.meets.ensures
