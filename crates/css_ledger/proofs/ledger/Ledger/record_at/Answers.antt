use Rattle.std.proofs.Common.{◌≡◌, ◌<◌, length, Some, sym, ap, ◌∙◌, refl, subst}
use Rattle.std.specs.Prelude.{slice_get}
use Rattle.css_domain.specs.Ledgers.{Books, records}
use Rattle.css_ledger.proofs.Places.{record_there}
use Rattle.css_ledger.proofs.ledger.Ledger.record_at.Goals as goal

pub returns : goal.returns
returns g c =
    let laws = g.met.D.Domain g.world.𝓛 g.world.𝓜 g.world.𝓡 ((λ s x. x), (λ x. x), (λ x. x), λ x. x) in
    let within = subst (λ (b : Books g.row.D-Class.Denot g.row.D-Rule.Denot). c.args.position < length b.rules) (sym c.self.view_is) c.requires.position in
    let there = record_there g.D.Domain.meaning g.D.Class.PartialEq.eq g.met.D.Class.Eq.laws laws.same laws.exact _ _ _ _ _ c.self.invariant.0 refl c.args.position c.index.result.now within in
    subst (λ (b : Books g.row.D-Class.Denot g.row.D-Rule.Denot). slice_get (records g.D.Domain.meaning b) c.args.position ≡ Some c.in_ok-copied.copied) c.self.view_is
    (there ∙ ap Some (sym c.index.ensures) ∙ ap Some (sym c.in_ok-copied.ensures))
