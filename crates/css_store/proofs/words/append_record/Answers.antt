use Rattle.std.proofs.Common.{◌≡◌, ◌++◌, ◌∷◌, [], ℕ, List, Some, sym, ap, ◌∙◌, subst, append_assoc}
use Rattle.css_domain.specs.declared.shape.Shape.{Shape}
use Rattle.css_domain.specs.Records.{shape_code, record_words}
use Rattle.css_domain.specs.Ledgers.{classes, record_of}
use Rattle.css_log.specs.States.{WriterState}
use Rattle.css_domain.specs.WholeRecords.{IsWhole, IsNarrowShape}
use Rattle.css_domain.proofs.Whole.{whole_append, whole_one}
use Rattle.lists.proofs.Places.{IsIn-slice_get}
use Rattle.css_store.specs.RecordWords.{child_words}
use Rattle.css_store.proofs.InRow.{record_words_are, narrow}
use Rattle.css_store.proofs.words.append_record.Goals as goal

pub returns-clause-list : goal.returns-clause-list
returns-clause-list g c = λ r at.
    let laws = g.met.D.Domain g.world.𝓛 g.world.𝓜 g.world.𝓡 ((λ s x. x), (λ x. x), (λ x. x), λ x. x) in
    let D = g.D.Domain.meaning in
    let cs = classes D c.args.ledger.now in
    let same : c.rule-rule.result.now ≡ r = (let e : Some c.rule-rule.result.now ≡ Some r = sym c.rule-rule.ensures ∙ at in cc) in
    let code = c.code_of.ensures.code ∙ ap (λ (s : Shape). shape_code s) c.shape.ensures in
    let words = record_words_are D g.D.Class.PartialEq.eq g.met.D.Class.Eq.laws laws.same laws.exact c.args.ledger.now c.requires.ledger c.rule-rule.result.now c.args.number c.code_of.result c.arity.result (c.requires.own c.rule-rule.result.now c.rule-rule.ensures) code c.arity.ensures in
    let all = c.append_children.ensures
    ∙ ap (λ (w : WriterState). record w { list = w.list ++ child_words (record_of D cs c.rule-rule.result.now) }) c.append.ensures
    ∙ ap (λ (l : List ℕ). record c.args.writer.now { list = l }) (append_assoc c.args.writer.now.list (_ ∷ _ ∷ []) (child_words (record_of D cs c.rule-rule.result.now)) ∙ ap (λ (l : List ℕ). c.args.writer.now.list ++ l) words) in
    subst (λ (s : g.row.D-Rule.Denot). c.append_children.new.writer ≡ record c.args.writer.now { list = c.args.writer.now.list ++ record_words (record_of D cs s) }) same all

pub returns-clause-whole : goal.returns-clause-whole
returns-clause-whole g c =
    let laws = g.met.D.Domain g.world.𝓛 g.world.𝓜 g.world.𝓡 ((λ s x. x), (λ x. x), (λ x. x), λ x. x) in
    let D = g.D.Domain.meaning in
    let r = c.rule-rule.result.now in
    let shape = subst IsNarrowShape c.shape.ensures c.code_of.ensures.narrow in
    let is_narrow = narrow D g.D.Class.PartialEq.eq g.met.D.Class.Eq.laws laws.same laws.exact c.args.ledger.now c.requires.ledger r (IsIn-slice_get c.args.ledger.now.rules c.args.position r c.rule-rule.ensures) shape in
    subst IsWhole (sym (ap (λ (w : WriterState). w.list) (returns-clause-list g c r c.rule-rule.ensures))) (whole_append c.args.writer.now.list _ c.requires.whole (whole_one (record_of D (classes D c.args.ledger.now) r) is_narrow))
