use Rattle.std.proofs.Common.{◌≡◌, ◌+◌, ◌*◌, ◌++◌, ◌∷◌, [], ℕ, Bool, cond, List, take, sym, ap, ◌∙◌, append_assoc}
use Rattle.css_domain.specs.Ledgers.{classes, record_of}
use Rattle.css_store.specs.RecordWords.{child_words}
use Rattle.css_store.proofs.InRow.{next_child}
use Rattle.css_store.proofs.words.append_children.Goals as goal

pub loop-slot-preserved : goal.loop-slot-preserved
loop-slot-preserved g c =
    let laws = g.met.D.Domain g.world.𝓛 g.world.𝓜 g.world.𝓡 ((λ s x. x), (λ x. x), (λ x. x), λ x. x) in
    let D = g.D.Domain.meaning in
    let cs = classes D c.args.ledger.now in
    let ws : List ℕ = child_words (record_of D cs c.args.rule.now) in
    let n : ℕ = c.child-in-loop-slot.result in
    let word : c.child_word.result ≡ 2 * n + cond (D.positive c.child.result.now) 1 0 = c.child_word.ensures ∙ ap (λ (b : Bool). 2 * n + cond b 1 0) c.positive-positive.ensures in
    let class = c.child-in-loop-slot.ensures c.args.rule.now c.child.result.now c.requires.rule c.child.ensures in
    let next = next_child D g.D.Class.PartialEq.eq g.met.D.Class.Eq.laws laws.same laws.exact c.args.ledger.now c.requires.ledger c.args.rule.now c.loop-slot.slot n c.child.result.now c.child.ensures class in
    c.append.ensures
    ∙ (λ i. record (c.loop-slot.invariant i) { list = (c.loop-slot.invariant i).list ++ word i ∷ [] })
    ∙ ap (λ (l : List ℕ). record c.args.writer.now { list = l }) (append_assoc c.args.writer.now.list (take c.loop-slot.slot ws) _ ∙ ap (λ (l : List ℕ). c.args.writer.now.list ++ l) (sym next))
