use Rattle.std.proofs.Common.{sym, ◌∙◌}
use Rattle.css_crew.proofs.FiledPicks.{picked_is_filed}
use Rattle.css_crew.proofs.laws.picks_are_filed.Goals as goal

pub returns : goal.returns
returns g c =
    let laws = g.met.D.Domain g.world.𝓛 g.world.𝓜 g.world.𝓡 ((λ s x. x), (λ x. x), (λ x. x), λ x. x) in
    λ l entries is first picked. picked_is_filed g.D.Domain.meaning (λ x. laws.same x x ∙ g.met.D.Class.Eq.laws.refl x) (λ a b h. laws.exact a b (sym (laws.same a b) ∙ h)) l entries is first picked
