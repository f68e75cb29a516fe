use Rattle.std.proofs.Common.{arith}
use Rattle.css_prune.specs.Faults.{IsRuleRight}
use Rattle.css_prune.proofs.FirstFaults.{before_more, not_both}
use Rattle.css_prune.proofs.faults.first_wrong_rule.Goals as goal
use Rattle.lists.proofs.Places.{some_at}

pub returns-then-not-is_rule_right-clause-some : goal.returns-then-not-is_rule_right-clause-some
returns-then-not-is_rule_right-clause-some g c =
    record {
      entry = c.index-entries-place.result;
      at = some_at c.args.entries.now c.loop-place.place c.index-entries-place.result c.loop-place-test.true c.index-entries-place.is;
      wrong = λ r. not_both c.is_rule_right.result c.if-not-is_rule_right.true (c.is_rule_right.ensures.1 r);
      before = c.loop-place.invariant;
    }

pub loop-place-preserved : goal.loop-place-preserved
loop-place-preserved g c =
    before_more (IsRuleRight g.D.Domain.meaning c.args.entries.now) c.args.entries.now c.loop-place.place c.index-entries-place.result
    (some_at c.args.entries.now c.loop-place.place c.index-entries-place.result c.loop-place-test.true c.index-entries-place.is)
    (c.is_rule_right.ensures.0 c.if-not-is_rule_right.false) c.loop-place.invariant

pub returns-clause-none : goal.returns-clause-none
returns-clause-none g c = λ j x l at. c.loop-place.invariant j x (omega (arith, l, c.loop-place-test.false)) at
