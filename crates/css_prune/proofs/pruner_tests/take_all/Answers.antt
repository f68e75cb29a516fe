use Rattle.std.proofs.Common.{◌≡◌, ℕ, List, ap, subst}
use Rattle.css_domain.specs.WholeRecords.{IsWhole}
use Rattle.css_domain.specs.WordViews.{ViewState}
use Rattle.css_prune.proofs.pruner_tests.take_all.Goals as goal

pub returns : goal.returns
returns c = subst (λ (ws : List ℕ). (w : IsWhole ws) → c.take.new.self ≡ w.records) (ap (λ (v : ViewState). v.words) c.of-view.ensures) c.in_ok-take.ensures.records
