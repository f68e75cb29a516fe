use Rattle.css_prune.specs.Faults.{EachBefore, AreRanksRight}
use Rattle.css_prune.proofs.faults.first_wrong_rank.Given as goal

abbrev pub invariant-loop-place : goal.invariant-loop-place
invariant-loop-place g l = EachBefore (AreRanksRight g.D.Domain.meaning l.entries) l.entries l.place
