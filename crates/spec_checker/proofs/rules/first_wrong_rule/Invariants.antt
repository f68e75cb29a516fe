use Rattle.std.proofs.Common.{◌≡◌, take}
use Rattle.std.specs.Prelude.{map}
use Rattle.css_prune.specs.Faults.{EachBefore}
use Rattle.spec_checker.specs.Refusing.{IsRuleRight}
use Rattle.spec_checker.specs.Passing.{AreMarked}
use Rattle.spec_checker.proofs.rules.first_wrong_rule.Given as goal

abbrev pub invariant-loop-place : goal.invariant-loop-place
invariant-loop-place l =
    record {
      seen : map (λ t. t.now) l.seen.keys ≡ map (λ e. e.class) (take l.place l.entries);
      named : AreMarked l.entries l.place l.named.items;
      right : EachBefore (IsRuleRight l.entries) l.entries l.place;
    }
