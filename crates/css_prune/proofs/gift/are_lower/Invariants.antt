use Rattle.std.proofs.Common.{◌≡◌, true}
use Rattle.std.specs.Prelude.{map, ◌||◌, not, slice_index}
use Rattle.std.specs.List.{list_all, range_with_len}
use Rattle.css_domain.specs.Shapes.{is_same_length}
use Rattle.css_prune.specs.Marks.{has_rank_below}
use Rattle.css_prune.proofs.gift.are_lower.Given as goal

abbrev pub invariant-loop-slot : goal.invariant-loop-slot
invariant-loop-slot l =
    list_all (λ slot. not (is_same_length l.shape (map (λ child. child.1) l.children) slot) || has_rank_below l.end l.ranks (slice_index (map (λ child. child.0) l.children) slot)) (range_with_len 0 l.slot) ≡ true
