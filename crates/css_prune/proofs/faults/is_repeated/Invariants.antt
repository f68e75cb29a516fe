use Rattle.css_prune.specs.Faults.{EachBefore}
use Rattle.std.proofs.Common.{◌≡◌}
use Rattle.css_prune.proofs.faults.is_repeated.Given as goal

abbrev pub invariant-loop-j : goal.invariant-loop-j
invariant-loop-j g l = EachBefore (λ k d. d.class ≡ l.class → ⊥) l.entries l.j
