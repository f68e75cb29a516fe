use Rattle.css_prune.specs.Faults.{EachBefore, AreRanksRight}
use Rattle.tile_rules.specs.Meaning.{tile_meaning}
use Rattle.spec_checker.proofs.ranks.first_wrong_rank.Given as goal

abbrev pub invariant-loop-place : goal.invariant-loop-place
invariant-loop-place l = EachBefore (AreRanksRight tile_meaning l.entries) l.entries l.place
