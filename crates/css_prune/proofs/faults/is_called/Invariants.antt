use Rattle.css_prune.specs.Faults.{EachBefore}
use Rattle.css_prune.proofs.faults.is_called.Given as goal
use Rattle.lists.specs.Members.{IsIn}

abbrev pub invariant-loop-j : goal.invariant-loop-j
invariant-loop-j g l = EachBefore (λ k d. IsIn l.place d.children → ⊥) l.entries l.j
