-- What is claimed is filed.
use Rattle.std.proofs.Common.{◌≡◌, ℕ, sym, ◌∙◌, ap, subst, arith, length, take, Some}
use Rattle.std.specs.Prelude.{slice_get}
use Rattle.css_domain.specs.Ledgers.{Books, with_work, with_filing, classes, records}
use Rattle.css_domain.specs.LedgerFacts.{IsFilingOf}
use Rattle.css_crew.specs.Ways.{IsExpansion}
use Rattle.css_crew.proofs.Turns.{claimed_fresh, claimed_idle, claimed_spent, claimed_finished, claimed_filed, claimed_out}
use Rattle.css_crew.proofs.next.file_fresh.Goals as goal
use Rattle.lists.specs.Members.{IsIn}

pub class-requires-clause-number : goal.class-requires-clause-number
class-requires-clause-number g c =
    let a = c.in-Work.ensures.answer in
    let e = c.in-Work.ensures.after ∙ ap (with_work c.args.ledger.now) (sym a) in
    let w = claimed_fresh g.D.Domain.meaning c.args.ledger.now c.requires.out c.in-Work.pack.number a in
    let k = ap (λ (b : Books g.row.D-Class.Denot g.row.D-Rule.Denot). length (classes g.D.Domain.meaning b)) e in
    λ κs lives. omega (arith, c.number.ensures, w.0, k)

pub file-requires-clause-out : goal.file-requires-clause-out
file-requires-clause-out g c =
    let e = c.in-Work.ensures.after ∙ ap (with_work c.args.ledger.now) (sym c.in-Work.ensures.answer) in
    λ κs lives. subst (λ (b : Books g.row.D-Class.Denot g.row.D-Rule.Denot). IsIn c.in-Work.pack.number b.out) (sym e) (claimed_out g.D.Domain.meaning c.args.ledger.now c.requires.out c.in-Work.pack.number)

pub file-requires-clause-filing : goal.file-requires-clause-filing
file-requires-clause-filing g c = λ κs lives d at.
    let e = c.in-Work.ensures.after ∙ ap (with_work c.args.ledger.now) (sym c.in-Work.ensures.answer) in
    let here : Some c.class.result.now ≡ Some d = sym c.class.ensures ∙ ap (slice_get (classes g.D.Domain.meaning c.claim.new.self)) c.number.ensures ∙ at in
    let same : c.class.result.now ≡ d = cc in
    let book : g.E.Expander.rulebook_of c.args.expander.now ≡ c.claim.new.self.rulebook = sym c.requires.rulebook ∙ sym (ap (λ (b : Books g.row.D-Class.Denot g.row.D-Rule.Denot). b.rulebook) e) in
    subst (λ (x : g.row.D-Class.Denot). IsFilingOf g.D.Domain.meaning c.claim.new.self.rulebook x c.in-Ok.filing) same
    (subst (λ (r : ℕ). IsFilingOf g.D.Domain.meaning r c.class.result.now c.in-Ok.filing) book c.in-Ok.ensures.filing)

pub returns-in_default-file-clause-goes : goal.returns-in_default-file-clause-goes
returns-in_default-file-clause-goes g c =
    let a = c.in-Work.ensures.answer in
    let e = c.in-Work.ensures.after ∙ ap (with_work c.args.ledger.now) (sym a) in
    record {
      number = c.in-Work.pack.number;
      rules = c.in-Ok.filing;
      next = a;
      filed = c.in_default-file.ensures.filed ∙ ap (λ (b : Books g.row.D-Class.Denot g.row.D-Rule.Denot). with_filing b c.in-Work.pack.number c.in-Ok.filing) e ∙ claimed_filed g.D.Domain.meaning c.args.ledger.now c.requires.out c.in-Work.pack.number c.in-Ok.filing;
      class = c.class.result.now;
      at = ap (slice_get (classes g.D.Domain.meaning c.args.ledger.now)) (sym c.number.ensures) ∙ ap (λ (b : Books g.row.D-Class.Denot g.row.D-Rule.Denot). slice_get (classes g.D.Domain.meaning b) c.number.result) (sym e) ∙ c.class.ensures;
      expansion = subst (λ (r : ℕ). IsExpansion g.D.Domain.meaning r c.class.result.now c.in-Ok.filing) (sym c.requires.rulebook) c.in-Ok.ensures;
    }

pub returns-in_default-file-clause-records : goal.returns-in_default-file-clause-records
returns-in_default-file-clause-records g c = λ _.
    let e = c.in-Work.ensures.after ∙ ap (with_work c.args.ledger.now) (sym c.in-Work.ensures.answer) in
    subst (λ (b : Books g.row.D-Class.Denot g.row.D-Rule.Denot). take (length b.rules) (records g.D.Domain.meaning c.file.new.self) ≡ records g.D.Domain.meaning b) e c.in_default-file.ensures.old_records

pub returns-in-Spent-clause-goes : goal.returns-in-Spent-clause-goes
returns-in-Spent-clause-goes g c = (c.in-Spent.ensures.after ∙ ap (with_work c.args.ledger.now) (sym c.in-Spent.ensures.answer), claimed_spent g.D.Domain.meaning c.args.ledger.now c.requires.out c.in-Spent.ensures.answer)

pub returns-in-Idle-clause-goes : goal.returns-in-Idle-clause-goes
returns-in-Idle-clause-goes g c = (c.in-Idle.ensures.after ∙ ap (with_work c.args.ledger.now) (sym c.in-Idle.ensures.answer), claimed_idle g.D.Domain.meaning c.args.ledger.now c.requires.out c.in-Idle.ensures.answer)

pub returns-in-Finished-clause-goes : goal.returns-in-Finished-clause-goes
returns-in-Finished-clause-goes g c = (c.in-Finished.ensures.after ∙ ap (with_work c.args.ledger.now) (sym c.in-Finished.ensures.answer), claimed_finished g.D.Domain.meaning c.args.ledger.now c.requires.out c.in-Finished.ensures.answer)
