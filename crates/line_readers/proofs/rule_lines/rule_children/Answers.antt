use Rattle.std.proofs.Common.{◌∙◌}
use Rattle.line_readers.proofs.Arities.{line_has}
use Rattle.line_readers.proofs.rule_lines.rule_children.Goals as goal

pub returns : goal.returns
returns c = λ k e. c.children_of_line.ensures ∙ line_has c.args.line.now k e
