use Rattle.std.proofs.Common.{◌≡◌, ◌+◌, ◌-◌, ◌*◌, false, length, drop, take}
use Rattle.std.specs.Prelude.{slice_index_or}
use Rattle.std.specs.List.{list_any, range_with_len}
use Rattle.gridded.specs.Orders.{cells_of}
use Rattle.emptiness.specs.Glueing.{reaches, glues, glues_at, joins, onward, corner}
use Rattle.emptiness.proofs.glueing.+glueing.Given as goal

abbrev pub decreases-reaches : goal.decreases-reaches
decreases-reaches l = (length l.tiling.now.requirements - l.list) * 60

abbrev pub decreases-glues : goal.decreases-glues
decreases-glues l = (length l.tiling.now.requirements - l.list) * 60 + (length l.pattern.now - l.taken) * 5 + 4

abbrev pub decreases-glues_at : goal.decreases-glues_at
decreases-glues_at l = (length l.tiling.now.requirements - l.list) * 60 + (length l.pattern.now - l.taken) * 5 + 3

abbrev pub decreases-joins : goal.decreases-joins
decreases-joins l = (length l.tiling.now.requirements - l.list) * 60 + (length l.pattern.now - l.taken) * 5 + 1

abbrev pub invariant-reaches-loop-pattern : goal.invariant-reaches-loop-pattern
invariant-reaches-loop-pattern l =
    list_any (λ p. glues l.tiling.obstructions p (λ h. reaches l.tiling (drop (l.list + 1) l.tiling.requirements) h) (cells_of p) 0 l.g) (take l.pattern-index l.patterns) ≡ false

abbrev pub invariant-glues-loop-place : goal.invariant-glues-loop-place
invariant-glues-loop-place l =
    list_any (λ i. glues_at l.tiling.obstructions (onward l.tiling l.pattern l.list l.taken) (slice_index_or (cells_of l.pattern) l.taken corner) l.g i) (range_with_len l.from (l.place - l.from)) ≡ false

abbrev pub invariant-glues_at-loop-letter : goal.invariant-glues_at-loop-letter
invariant-glues_at-loop-letter l =
    list_any (λ m. joins l.tiling.obstructions (onward l.tiling l.pattern l.list l.taken) (slice_index_or (cells_of l.pattern) l.taken corner) l.g l.place m) (range_with_len 0 l.letter) ≡ false
