use Rattle.std.proofs.Common.{◌≡◌, ◌<◌, ℕ, length}
use Rattle.std.specs.Prelude.{slice_index}
use Rattle.css_prune.specs.Pruning.{kept}
use Rattle.css_prune.specs.Marks.{AreAfter}
use Rattle.css_prune.proofs.round.marks_of.Given as goal
use Rattle.lists.specs.Members.{IsIn}

-- the classes of the last round are the fresh ones
abbrev pub invariant-loop-done : goal.invariant-loop-done
invariant-loop-done l =
    record {
      ranks : length l.ranks.items ≡ length l.keep;
      picks : length l.picks.items ≡ length l.keep;
      marks : AreAfter (kept l.keep) l.records l.done l.ranks.items l.picks.items;
      fresh : 0 < l.done → (c : ℕ) → slice_index l.ranks.items c ≡ l.done → IsIn c l.fresh.items;
      small : (c : ℕ) → IsIn c l.fresh.items → c < length l.keep;
    }
