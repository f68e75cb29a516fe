use Rattle.std.proofs.Common.{◌≡◌, ◌<◌, ◌≤◌, true, false, length}
use Rattle.css_prune.specs.Marks.{how_many}
use Rattle.css_prune.proofs.Drops.{AreDroppedBelow}
use Rattle.css_prune.proofs.pruned.drop_unranked.Given as goal

abbrev pub invariant-loop-class : goal.invariant-loop-class
invariant-loop-class l =
    record {
      as_many : length l.keep ≡ length l.initial.keep;
      left : AreDroppedBelow l.class l.ranks l.initial.keep l.keep;
      most : how_many l.keep ≤ how_many l.initial.keep;
      fewer : l.fewer ≡ true → how_many l.keep < how_many l.initial.keep;
      same : l.fewer ≡ false → l.keep ≡ l.initial.keep;
    }
