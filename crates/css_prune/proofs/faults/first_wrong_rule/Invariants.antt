use Rattle.css_prune.specs.Faults.{EachBefore, IsRuleRight}
use Rattle.css_prune.proofs.faults.first_wrong_rule.Given as goal

abbrev pub invariant-loop-place : goal.invariant-loop-place
invariant-loop-place g l = EachBefore (IsRuleRight g.D.Domain.meaning l.entries) l.entries l.place
