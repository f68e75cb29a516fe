-- Rule by rule.
use Rattle.std.proofs.Common.{◌++◌, ◌∷◌, [], length, take, ap, ◌∙◌, arith}
use Rattle.std.specs.Prelude.{flat_map}
use Rattle.css_ledger.proofs.Numbering.{few_by_rules, restored, restored_within, rule_added, take_one_more, on_err}
use Rattle.css_ledger.proofs.number.records_for.Goals as goal
use Rattle.lists.proofs.Places.{some_at}

pub record_for-requires-clause-few : goal.record_for-requires-clause-few
record_for-requires-clause-few g c =
    let at = some_at c.args.rules.now c.loop-rule.rule-index c.rule-item.result c.loop-rule-test.true c.rule-item.is in
    let f = few_by_rules g.D.Domain.meaning c.args.classes.now.keys c.args.rules.now c.loop-rule.rule-index c.rule-item.result at in
    omega (arith, f, ap length c.loop-rule.invariant.keys, c.requires)

pub returns-in_err-record_for-clause-err : goal.returns-in_err-record_for-clause-err
returns-in_err-record_for-clause-err g c =
    let added = flat_map g.D.Domain.meaning.children (take c.loop-rule.rule-index c.args.rules.now) in
    let cut = rw c.loop-rule.invariant.keys at c.in_err-record_for.ensures.err in
    on_err c.from_residual-in_err-record_for.result (restored_within g.D.Domain.meaning c.args.classes.now.keys added c.record_for.new.classes.keys cut)

pub returns-in_err-push-clause-err : goal.returns-in_err-push-clause-err
returns-in_err-push-clause-err g c =
    let laws = g.met.D.Domain g.world.𝓛 g.world.𝓜 g.world.𝓡 ((λ s x. x), (λ x. x), (λ x. x), λ x. x) in
    let own = λ (x : g.row.D-Class.Denot). laws.same x x ∙ g.met.D.Class.Eq.laws.refl x in
    let rs = take c.loop-rule.rule-index c.args.rules.now in
    let r = c.rule-item.result in
    let a = rule_added g.D.Domain.meaning own c.args.parent c.args.classes.now.keys c.loop-rule.classes.keys c.record_for.new.classes.keys c.loop-rule.records.items rs r c.loop-rule.invariant.keys c.loop-rule.invariant.items c.in_ok-record_for.ensures.keys in
    on_err c.from_residual-in_err-push.result (rw a.0 (restored g.D.Domain.meaning c.args.classes.now.keys (flat_map g.D.Domain.meaning.children (rs ++ r ∷ []))))

pub loop-rule-preserved : goal.loop-rule-preserved
loop-rule-preserved g c =
    let laws = g.met.D.Domain g.world.𝓛 g.world.𝓜 g.world.𝓡 ((λ s x. x), (λ x. x), (λ x. x), λ x. x) in
    let own = λ (x : g.row.D-Class.Denot). laws.same x x ∙ g.met.D.Class.Eq.laws.refl x in
    let at = some_at c.args.rules.now c.loop-rule.rule-index c.rule-item.result c.loop-rule-test.true c.rule-item.is in
    let rs = take c.loop-rule.rule-index c.args.rules.now in
    let r = c.rule-item.result in
    let a = rule_added g.D.Domain.meaning own c.args.parent c.args.classes.now.keys c.loop-rule.classes.keys c.record_for.new.classes.keys c.loop-rule.records.items rs r c.loop-rule.invariant.keys c.loop-rule.invariant.items c.in_ok-record_for.ensures.keys in
    let more = take_one_more c.args.rules.now c.loop-rule.rule-index r at in
    let pushed = c.in_ok-push.ensures.items ∙ ap (λ m. c.loop-rule.records.items ++ m ∷ []) c.in_ok-record_for.ensures.made in
    record { keys = rw more a.0; items = rw more (pushed ∙ a.1) }
