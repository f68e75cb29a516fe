use Rattle.std.proofs.Common.{◌≡◌, ℕ, ◌<◌, false, get_or}
use Rattle.std.specs.Prelude.{map, ◌≢◌}
use Rattle.css_prune.proofs.faults.no_other_positive.Given as goal

abbrev pub invariant-loop-other : goal.invariant-loop-other
invariant-loop-other g l = (s : ℕ) → s < l.other → s ≢ l.slot → get_or (map g.D.Domain.meaning.positive (g.D.Domain.meaning.children l.rule)) s false ≡ false
