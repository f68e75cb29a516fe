use Rattle.std.proofs.Common.{◌≡◌, length, take}
use Rattle.css_prune.specs.Pruning.{kept}
use Rattle.css_prune.specs.InRound.{IsRun}
use Rattle.css_prune.specs.Waiting.{WaitsForOne}
use Rattle.css_prune.proofs.round.settle_all.Given as goal

abbrev pub invariant-loop-place : goal.invariant-loop-place
invariant-loop-place l =
    record {
      ranks : length l.ranks ≡ length l.keep;
      picks : length l.picks ≡ length l.keep;
      run : IsRun (kept l.keep) l.records l.done (length l.keep) (WaitsForOne l.waiting.slots.items (take l.place l.classes)) l.initial.ranks l.initial.picks l.initial.next.items l.ranks l.picks l.next.items;
    }
