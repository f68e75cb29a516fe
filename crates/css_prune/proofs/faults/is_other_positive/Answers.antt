use Rattle.std.proofs.Common.{sym, ◌∙◌}
use Rattle.css_prune.proofs.FirstFaults.{mapped_at}
use Rattle.css_prune.proofs.faults.is_other_positive.Goals as goal

pub returns-clause-yes : goal.returns-clause-yes
returns-clause-yes g c = λ t. (c.if-other-slot.false, mapped_at g.D.Domain.meaning.positive (g.D.Domain.meaning.children c.args.rule.now) c.args.other c.child.result.now c.child.ensures ∙ sym c.positive.ensures ∙ t)

pub returns-clause-no : goal.returns-clause-no
returns-clause-no g c = λ f o. mapped_at g.D.Domain.meaning.positive (g.D.Domain.meaning.children c.args.rule.now) c.args.other c.child.result.now c.child.ensures ∙ sym c.positive.ensures ∙ f
