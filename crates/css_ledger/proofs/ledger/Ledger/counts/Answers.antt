-- What a ledger keeps, and its sizes.
use Rattle.std.proofs.Common.{sym, ◌∙◌, refl, subst, arith}
use Rattle.css_domain.specs.Ledgers.{Books}
use Rattle.css_domain.specs.LedgerFacts.{IsLedger}
use Rattle.css_domain.proofs.Sizes.{has_sizes}
use Rattle.css_ledger.proofs.Claims.{few_stages, few_rules_filed}
use Rattle.css_ledger.proofs.ledger.Ledger.counts.Goals as goal

pub overflow_cast-result-2 : goal.overflow_cast-result-2
overflow_cast-result-2 g c = omega (arith, c.len-2.ensures.len, few_stages g.D.Domain.meaning _ _ _ _ _ c.self.invariant.0 refl, c.self.invariant.0.as_many)

pub overflow_cast-result-3 : goal.overflow_cast-result-3
overflow_cast-result-3 g c = omega (arith, c.len-3.ensures, few_rules_filed g.D.Domain.meaning _ _ _ _ _ c.self.invariant.0 refl, c.self.inside.rules.ok)

pub returns-clause-ledger : goal.returns-clause-ledger
returns-clause-ledger g c = subst (λ (b : Books g.row.D-Class.Denot g.row.D-Rule.Denot). IsLedger g.D.Domain.meaning b) c.self.view_is c.self.invariant.0.ledger

pub returns-clause-sizes : goal.returns-clause-sizes
returns-clause-sizes g c =
    let laws = g.met.D.Domain g.world.𝓛 g.world.𝓜 g.world.𝓡 ((λ s x. x), (λ x. x), (λ x. x), λ x. x) in
    has_sizes g.D.Domain.meaning c.args.self.now (returns-clause-ledger g c) (λ x. laws.same x x ∙ g.met.D.Class.Eq.laws.refl x) (λ a b h. laws.exact a b (sym (laws.same a b) ∙ h))
