use Rattle.std.proofs.Common.{◌≡◌, ◌<◌, length}
use Rattle.css_prune.specs.Pruning.{kept}
use Rattle.css_prune.specs.InRound.{IsRun}
use Rattle.css_prune.proofs.round.try_all.Given as goal

abbrev pub invariant-loop-place : goal.invariant-loop-place
invariant-loop-place l =
    record {
      ranks : length l.ranks ≡ length l.keep;
      picks : length l.picks ≡ length l.keep;
      run : IsRun (kept l.keep) l.records l.done (length l.keep) (λ p. p < l.place) l.initial.ranks l.initial.picks l.initial.next.items l.ranks l.picks l.next.items;
    }
