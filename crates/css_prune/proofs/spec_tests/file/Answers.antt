-- What is out may be filed, with rules that make the class of its number.
use Rattle.std.proofs.Common.{◌≡◌, ℕ, true, Some, sym, ◌∙◌, subst}
use Rattle.std.specs.Prelude.{slice_get}
use Rattle.css_domain.specs.Ledgers.{classes, is_among}
use Rattle.css_domain.specs.LedgerFacts.{IsFilingOf}
use Rattle.css_domain.proofs.Finding.{in_from_among}
use Rattle.css_prune.specs.contracts.spec_tests.NumbersDomain.TheImpl.{ghosts}
use Rattle.css_prune.proofs.spec_tests.file.Goals as goal

pub file-requires-clause-out : goal.file-requires-clause-out
file-requires-clause-out c = λ lives. in_from_among c.args.pack.number c.args.ledger.now.out (subst (λ n. is_among n c.args.ledger.now.out ≡ true) c.number-number.ensures (sym c.is_out.ensures.answer ∙ c.if-not-is_out.false))

pub file-requires-clause-filing : goal.file-requires-clause-filing
file-requires-clause-filing c = λ lives d at.
    let here : slice_get (classes ghosts.meaning c.args.ledger.now) c.args.pack.number ≡ Some c.class.result.now = subst (λ (n : ℕ). slice_get (classes ghosts.meaning c.args.ledger.now) n ≡ Some c.class.result.now) c.number-number.ensures c.class.ensures in
    let same : c.class.result.now ≡ d = let e = sym here ∙ at in cc in
    subst (λ (x : ℕ). IsFilingOf ghosts.meaning c.args.ledger.now.rulebook x c.in-Ok.filing) same (c.in-Ok.ensures c.args.ledger.now.rulebook)
