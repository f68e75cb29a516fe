use Rattle.std.proofs.Common.{◌≡◌, ◌≤◌, ◌++◌}
use Rattle.listings.specs.Draws.{drawn_bases}
use Rattle.listings.proofs.draw.draw_bases.Given as goal

abbrev pub decreases-loop-left : goal.decreases-loop-left
decreases-loop-left l = l.left

abbrev pub invariant-loop-left : goal.invariant-loop-left
invariant-loop-left l = record {
  bases : l.bases.items ++ drawn_bases l.left l.x ≡ drawn_bases l.initial.left l.initial.x;
  small : l.x ≤ 2147483647;
}
