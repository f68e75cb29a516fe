use Rattle.std.proofs.Common.{ap, arith}
use Rattle.lists.proofs.Places.{at_place}
use Rattle.css_domain.specs.Ledgers.{Counts}
use Rattle.css_crew.proofs.waiting.waits.Goals as goal

pub returns-then-expanded-child : goal.returns-then-expanded-child
returns-then-expanded-child g c = λ _.
    let rule = c.rule.result.now in
    let d = at_place (g.D.Domain.meaning.children rule) c.loop-slot.slot (omega (arith, c.loop-slot-test.true, c.arity-slot-end.ensures)) in
    let many = ap (λ (n : Counts). n.expanded) c.counts-expanded.ensures.answer in
    record {
      rule = rule;
      there = c.rule.ensures;
      slot = c.loop-slot.slot;
      child = d.0;
      at = d.1;
      number = c.child.result;
      named = c.child.ensures rule d.0 c.rule.ensures d.1;
      late = omega (arith, many, c.if-expanded-child.true);
    }
