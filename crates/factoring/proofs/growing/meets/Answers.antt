use Rattle.std.proofs.Common.{◌∙◌}
use Rattle.factoring.proofs.Linked.{on_lines}
use Rattle.factoring.proofs.growing.meets.Goals as goal

pub returns : goal.returns
returns c = c.has_on_lines.ensures ∙ on_lines c.args.set c.args.cell c.count.ensures.set
