use Rattle.std.proofs.Common.{◌≡◌, ℕ, true, length}
use Rattle.css_domain.specs.Standing.{Stands}
use Rattle.css_prune.specs.Pruning.{kept}
use Rattle.css_prune.specs.Marks.{how_many}
use Rattle.css_prune.proofs.pruned.standing_among.Given as goal

abbrev pub invariant-loop-keep : goal.invariant-loop-keep
invariant-loop-keep l =
    record {
      as_many : length l.keep.items ≡ l.classes;
      all : (c : ℕ) → Stands l.records c → kept l.keep.items c ≡ true;
    }

abbrev pub decreases-loop-keep : goal.decreases-loop-keep
decreases-loop-keep l = how_many l.keep.items
