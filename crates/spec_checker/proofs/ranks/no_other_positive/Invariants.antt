use Rattle.tiling_core.specs.Measures.{is_positive}
use Rattle.std.proofs.Common.{◌≡◌, ℕ, ◌<◌, false, get_or}
use Rattle.std.specs.Prelude.{map, ◌≢◌}
use Rattle.spec_checker.proofs.ranks.no_other_positive.Given as goal

abbrev pub invariant-loop-other : goal.invariant-loop-other
invariant-loop-other l = (s : ℕ) → s < l.other → s ≢ l.slot → get_or (map is_positive l.tilings) s false ≡ false
