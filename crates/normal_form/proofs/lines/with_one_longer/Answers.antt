use Rattle.std.proofs.Common.{sym, ◌∙◌}
use Rattle.normal_form.proofs.UsedLines.{single_adds_none, longer_adds}
use Rattle.normal_form.proofs.lines.with_one_longer.Goals as goal

pub returns-then-len-eq1 : goal.returns-then-len-eq1
returns-then-len-eq1 c = λ test. single_adds_none test c.args.set c.args.g.now (sym c.len.ensures.value ∙ c.if-len-eq1.true)

pub returns : goal.returns
returns c = λ test. c.with_pattern.ensures test ∙ longer_adds test c.args.set c.args.g.now (λ e. c.if-len-eq1.false (c.len.ensures.value ∙ e))
