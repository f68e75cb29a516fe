-- The root stands exactly where the reason says so.
use Rattle.std.proofs.Common.{sym, ◌∙◌, subst}
use Rattle.css_domain.specs.Reasons.{EndsFor}
use Rattle.css_crew.specs.declared.reason.Reason.{Reason as Answer}
use Rattle.css_crew.specs.Ways.{reason_as}
use Rattle.css_crew.proofs.FiledPicks.{picked_is_filed}
use Rattle.css_crew.proofs.alone.spec_where_found.Goals as goal

pub extract-requires-clause-kept : goal.extract-requires-clause-kept
extract-requires-clause-kept g c = λ κs lives. (c.requires.pruned.standing 0).1 (subst (λ (a : Answer). EndsFor g.D.Domain.meaning c.args.ledger.now (reason_as a)) c.in-Found.is c.requires.reason)

pub returns-in_ok-spec-in-Found-clause-filed : goal.returns-in_ok-spec-in-Found-clause-filed
returns-in_ok-spec-in-Found-clause-filed g c =
    let laws = g.met.D.Domain g.world.𝓛 g.world.𝓜 g.world.𝓡 ((λ s x. x), (λ x. x), (λ x. x), λ x. x) in
    picked_is_filed g.D.Domain.meaning (λ x. laws.same x x ∙ g.met.D.Class.Eq.laws.refl x) (λ a b h. laws.exact a b (sym (laws.same a b) ∙ h)) c.args.ledger.now _ c.counts.ensures.ledger c.counts.ensures.sizes.root_first c.in_ok-spec-in-Found.ensures

pub returns-in-Budget-clause-spec : goal.returns-in-Budget-clause-spec
returns-in-Budget-clause-spec g c = (subst (λ (a : Answer). EndsFor g.D.Domain.meaning c.args.ledger.now (reason_as a)) c.in-Budget.is c.requires.reason).0

pub returns-in-Exhausted-clause-spec : goal.returns-in-Exhausted-clause-spec
returns-in-Exhausted-clause-spec g c = (subst (λ (a : Answer). EndsFor g.D.Domain.meaning c.args.ledger.now (reason_as a)) c.in-Exhausted.is c.requires.reason).0
