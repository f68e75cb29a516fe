-- By the stage, and what a ledger keeps.
use Rattle.std.proofs.Common.{sym, ◌∙◌, refl, ap, subst}
use Rattle.css_domain.specs.Ledgers.{Books, is_among}
use Rattle.css_domain.specs.LedgerFacts.{IsLedger}
use Rattle.css_domain.proofs.Sizes.{has_sizes}
use Rattle.css_ledger.specs.Stages.{is_out, stage_at}
use Rattle.css_ledger.proofs.Claims.{is_out_told}
use Rattle.css_ledger.proofs.ledger.Ledger.is_out.Goals as goal

pub returns-clause-answer : goal.returns-clause-answer
returns-clause-answer g c =
    c.out_at.ensures
    ∙ ap (λ s. is_out (stage_at s c.args.number)) c.as_slice.ensures.value
    ∙ is_out_told g.D.Domain.meaning _ _ _ _ _ c.self.invariant.0 refl c.args.number
    ∙ ap (λ b. is_among c.args.number b.out) c.self.view_is

pub returns-clause-ledger : goal.returns-clause-ledger
returns-clause-ledger g c = subst (λ (b : Books g.row.D-Class.Denot g.row.D-Rule.Denot). IsLedger g.D.Domain.meaning b) c.self.view_is c.self.invariant.0.ledger

pub returns-clause-sizes : goal.returns-clause-sizes
returns-clause-sizes g c =
    let laws = g.met.D.Domain g.world.𝓛 g.world.𝓜 g.world.𝓡 ((λ s x. x), (λ x. x), (λ x. x), λ x. x) in
    has_sizes g.D.Domain.meaning c.args.self.now (returns-clause-ledger g c) (λ x. laws.same x x ∙ g.met.D.Class.Eq.laws.refl x) (λ a b h. laws.exact a b (sym (laws.same a b) ∙ h))
