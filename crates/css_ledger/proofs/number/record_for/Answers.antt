-- Child by child.
use Rattle.std.proofs.Common.{◌++◌, ◌∷◌, [], length, take, ap, ◌∙◌, arith}
use Rattle.css_ledger.proofs.Numbering.{few_taken, restored, child_added, take_one_more, on_err}
use Rattle.css_ledger.proofs.number.record_for.Goals as goal

pub number_of-requires-clause-few : goal.number_of-requires-clause-few
number_of-requires-clause-few g c =
    let f = few_taken g.D.Domain.meaning c.args.classes.now.keys (g.D.Domain.meaning.children c.args.rule.now) c.loop-slot.slot in
    omega (arith, f, ap length c.loop-slot.invariant.keys, c.requires)

pub returns-in_err-number-clause-err : goal.returns-in_err-number-clause-err
returns-in_err-number-clause-err g c =
    let e = c.in_err-number.ensures.err ∙ c.loop-slot.invariant.keys in
    on_err c.from_residual.result (rw e (restored g.D.Domain.meaning c.args.classes.now.keys (take c.loop-slot.slot (g.D.Domain.meaning.children c.args.rule.now))))

pub returns-in_err-push-clause-err : goal.returns-in_err-push-clause-err
returns-in_err-push-clause-err g c =
    let laws = g.met.D.Domain g.world.𝓛 g.world.𝓜 g.world.𝓡 ((λ s x. x), (λ x. x), (λ x. x), λ x. x) in
    let own = λ (x : g.row.D-Class.Denot). laws.same x x ∙ g.met.D.Class.Eq.laws.refl x in
    let cs = take c.loop-slot.slot (g.D.Domain.meaning.children c.args.rule.now) in
    let d = c.child-child.result.now in
    let a = child_added g.D.Domain.meaning own c.args.classes.now.keys c.loop-slot.classes.keys c.number_of.new.classes.keys c.loop-slot.children.items cs d c.loop-slot.invariant.keys c.loop-slot.invariant.items c.in_ok-number.ensures.keys in
    on_err c.from_residual-in_err-push.result (rw a.0 (restored g.D.Domain.meaning c.args.classes.now.keys (cs ++ d ∷ [])))

pub loop-slot-preserved : goal.loop-slot-preserved
loop-slot-preserved g c =
    let laws = g.met.D.Domain g.world.𝓛 g.world.𝓜 g.world.𝓡 ((λ s x. x), (λ x. x), (λ x. x), λ x. x) in
    let own = λ (x : g.row.D-Class.Denot). laws.same x x ∙ g.met.D.Class.Eq.laws.refl x in
    let all = g.D.Domain.meaning.children c.args.rule.now in
    let cs = take c.loop-slot.slot all in
    let d = c.child-child.result.now in
    let a = child_added g.D.Domain.meaning own c.args.classes.now.keys c.loop-slot.classes.keys c.number_of.new.classes.keys c.loop-slot.children.items cs d c.loop-slot.invariant.keys c.loop-slot.invariant.items c.in_ok-number.ensures.keys in
    let more = take_one_more all c.loop-slot.slot d c.child-child.ensures in
    let pushed = c.in_ok-push.ensures.items ∙ (λ i. c.loop-slot.children.items ++ (c.in_ok-number.ensures.number i, c.positive.ensures i) ∷ []) in
    record { keys = rw more a.0; items = rw more (pushed ∙ a.1) }
