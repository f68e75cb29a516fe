use Rattle.std.proofs.Common.{◌≡◌, ◌≤◌, ◌++◌}
use Rattle.listings.specs.Draws.{drawn_words, number_after}
use Rattle.listings.proofs.draw.draw_words.Given as goal

abbrev pub decreases-loop-left : goal.decreases-loop-left
decreases-loop-left l = l.left

abbrev pub invariant-loop-left : goal.invariant-loop-left
invariant-loop-left l = record {
  words : l.words.items ++ drawn_words l.left l.x ≡ l.initial.words.items ++ drawn_words l.initial.left l.initial.x;
  number : number_after l.left l.x ≡ number_after l.initial.left l.initial.x;
  small : l.x ≤ 2147483647;
}
