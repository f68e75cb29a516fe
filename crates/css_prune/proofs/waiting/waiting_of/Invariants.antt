use Rattle.std.proofs.Common.{◌≡◌, length}
use Rattle.css_prune.specs.Waiting.{AreChained, AllWait}
use Rattle.css_prune.proofs.waiting.waiting_of.Given as goal

abbrev pub invariant-loop-place : goal.invariant-loop-place
invariant-loop-place l =
    record {
      as_many : length l.last.items ≡ l.classes;
      chained : AreChained (length l.records) l.last.items l.slots.items;
      all : AllWait l.records l.slots.items l.place;
    }
