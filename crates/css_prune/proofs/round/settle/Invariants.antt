use Rattle.std.proofs.Common.{◌≡◌, ℕ, suc, length}
use Rattle.css_prune.specs.Pruning.{kept}
use Rattle.css_prune.specs.InRound.{IsRun}
use Rattle.css_prune.specs.Waiting.{HasClass, WaitsFrom}
use Rattle.css_prune.proofs.round.settle.Given as goal

-- the slots from a number on are settled
abbrev pub invariant-loop-at : goal.invariant-loop-at
invariant-loop-at l =
    record {
      ranks : length l.ranks ≡ length l.keep;
      picks : length l.picks ≡ length l.keep;
      own : (i : ℕ) → l.at ≡ suc i → HasClass l.waiting.slots.items i l.class;
      run : IsRun (kept l.keep) l.records l.done (length l.keep) (WaitsFrom l.waiting.slots.items l.class l.at) l.initial.ranks l.initial.picks l.initial.next.items l.ranks l.picks l.next.items;
    }

abbrev pub decreases-loop-at : goal.decreases-loop-at
decreases-loop-at l = l.at
