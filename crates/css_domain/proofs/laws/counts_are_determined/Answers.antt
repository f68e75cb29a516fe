use Rattle.css_domain.proofs.Determined.{counts_are_determined, class_counts_combine_in}
use Rattle.css_domain.proofs.laws.counts_are_determined.Goals as goal

pub returns : goal.returns
returns g c =
    let laws = g.met.D.Domain g.world.𝓛 g.world.𝓜 g.world.𝓡 ((λ s x. x), (λ x. x), (λ x. x), λ x. x) in
    record { determined = counts_are_determined g.D.Domain.meaning; classes = class_counts_combine_in g.D.Domain.meaning laws.combined laws.none_of_length_0 }
