use Rattle.work_packs.specs.RulesMade.{AreRulesBy}
use Rattle.work_packs.proofs.filed.rules_by.Given as goal

abbrev pub invariant-loop-kind : goal.invariant-loop-kind
invariant-loop-kind l = AreRulesBy l.tiling l.yielded l.rules.items
