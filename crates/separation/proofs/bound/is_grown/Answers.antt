use Rattle.rule_kinds.specs.Choices.{is_bound}
use Rattle.separation.proofs.Reaching.{grown_first, grown_then}
use Rattle.separation.proofs.bound.is_grown.Goals as goal

pub returns-then-has : goal.returns-then-has
returns-then-has c = grown_first (is_bound c.args.axis c.args.tiling.now) c.args.set c.args.other c.has.result c.has.ensures.tested c.if-has.true

pub returns-else-has : goal.returns-else-has
returns-else-has c = grown_then (is_bound c.args.axis c.args.tiling.now) c.args.set c.args.other c.has.result c.is_reached.result c.has.ensures.tested c.if-has.false c.is_reached.ensures
