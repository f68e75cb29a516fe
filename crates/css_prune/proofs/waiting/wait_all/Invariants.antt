use Rattle.std.proofs.Common.{◌≡◌, ◌<◌, ℕ, length}
use Rattle.css_prune.specs.Waiting.{AreChained, IsWaiting, RecordWaits}
use Rattle.css_prune.proofs.waiting.wait_all.Given as goal

abbrev pub invariant-loop-slot : goal.invariant-loop-slot
invariant-loop-slot l =
    record {
      as_many : length l.last ≡ length l.initial.last;
      chained : (count : ℕ) → l.place < count → AreChained count l.initial.last l.initial.slots.items → AreChained count l.last l.slots.items;
      old : (c p : ℕ) → IsWaiting l.initial.slots.items c p → IsWaiting l.slots.items c p;
      waits : RecordWaits l.slots.items l.place l.item l.slot;
    }
