-- The steps of a reduction: where each applies, and to what it leads.
use Rattle.std.specs.Prelude.{ℕ, Bool, not, ◌&&◌, ◌||◌, ◌==◌, ◌-◌, nat_lt, List, [], ◌∷◌, map, filter, length, if◌then◌else◌}
use Rattle.std.specs.List.{list_all, list_any}
use Rattle.std.specs.Cmp.Lexicographic.{pointwise}
use Rattle.gridded.specs.declared.axis.Axis.{Axis}
use Rattle.gridded.specs.declared.axis.Axis.TheVariants as axis
use Rattle.gridded.specs.declared.cell.Cell.{Cell}
use Rattle.gridded.specs.Axes.{line_of, with_line, is_on, shares_line}
use Rattle.gridded.specs.Grids.{Point, holds}
use Rattle.gridded.specs.Orders.{cell_eq, gridded_eq}
use Rattle.tiling_core.specs.Tiles.{Tiles, tiling_of}
use Rattle.tiling_core.specs.Same.{tiles_eq}
use Rattle.tiling_core.specs.Roots.{void_tiling}
use Rattle.steps.specs.declared.step.Step.{Step}
use Rattle.steps.specs.declared.step.Step.TheVariants.{Min, Clean, Lists, Column, Row, Void}
use Rattle.gridded.specs.Small.{point_at, rising, falling}
use Rattle.tiling_core.specs.Patterns.{is_among, forbids, active_cells, holds_another, minimal, requires_list}
use Rattle.gridded.specs.Parts.{restricted}
use Rattle.gridded.specs.Places.{touches, has_one_point_in}
use Rattle.gridded.specs.Moved.{move_cells}
use Rattle.lists.specs.Members.{is_nil}

-- ---- Void
-- a list is empty, or the empty pattern is forbidden
abbrev pub is_hopeless : Tiles → Bool
is_hopeless t = list_any is_nil t.requirements || forbids t []

-- ---- Clean
-- c has exactly one point, and no other cell of its column and row has any
abbrev pub is_isolated : Tiles → Cell → Bool
is_isolated t c =
    forbids t (rising c c) && (forbids t (falling c c) && (requires_list t (point_at c ∷ [])
    && not (list_any (λ d. shares_line d c && not (cell_eq d c)) (active_cells t))))

-- whether it is another list than that of the point at c
abbrev pub is_other_list : Cell → List (List Point) → Bool
is_other_list c patterns = not (pointwise gridded_eq (point_at c ∷ []) patterns)

abbrev pub can_be_cleaned : Tiles → Cell → Bool
can_be_cleaned t c =
    list_any (has_one_point_in c) t.obstructions || list_any (λ patterns. is_other_list c patterns && list_any (has_one_point_in c) patterns) t.requirements

-- a pattern without its only point in c
abbrev pub cleaned : Cell → List Point → List Point
cleaned c g = if has_one_point_in c g then restricted (λ d. not (cell_eq c d)) g else g

abbrev pub cleaned_list : Cell → List (List Point) → List (List Point)
cleaned_list c patterns = if is_other_list c patterns then map (cleaned c) patterns else patterns

abbrev pub clean : Cell → Tiles → Tiles
clean c t = tiling_of t.width t.height (map (cleaned c) t.obstructions) (map (cleaned_list c) t.requirements)

-- ---- Lists
-- the members of a list that hold no obstruction, without those that hold another of these
abbrev pub useful : List (List Point) → List (List Point) → List (List Point)
useful obstructions patterns = minimal (filter (λ g. not (list_any (holds g) obstructions)) patterns)

-- whether what meets the one list meets the other: each of its members holds one of the other
abbrev pub implies_list : List (List Point) → List (List Point) → Bool
implies_list patterns others = list_all (λ g. list_any (holds g) others) patterns

-- whether another of the lists implies this one
abbrev pub is_implied : List (List (List Point)) → List (List Point) → Bool
is_implied lists others = list_any (λ patterns. not (pointwise gridded_eq patterns others) && implies_list patterns others) lists

abbrev pub without_implied : List (List (List Point)) → List (List (List Point))
without_implied lists = filter (λ others. not (is_implied lists others)) lists

-- the four acts, one after another
abbrev pub tidied : List (List Point) → List (List (List Point)) → List (List (List Point))
tidied obstructions lists = without_implied (filter (λ patterns. not (is_among patterns [])) (map (useful obstructions) lists))

abbrev pub tidy_lists : Tiles → Tiles
tidy_lists t = tiling_of t.width t.height t.obstructions (tidied t.obstructions t.requirements)

-- a member that the first two acts drop
abbrev pub is_useless : List (List Point) → List (List Point) → List Point → Bool
is_useless obstructions patterns g = list_any (holds g) obstructions || holds_another patterns g

-- a list that the first three acts change
abbrev pub is_untidy : List (List Point) → List (List Point) → Bool
is_untidy obstructions patterns = list_any (is_useless obstructions patterns) patterns || is_among patterns []

-- lists that the four acts change
abbrev pub are_untidy : List (List Point) → List (List (List Point)) → Bool
are_untidy obstructions lists = list_any (is_untidy obstructions) lists || list_any (is_implied lists) lists

-- ---- Column and Row
-- the sides as a cell, so that an axis names one of them
abbrev pub sides : Tiles → Cell
sides t = record { x = t.width; y = t.height }

abbrev pub misses : Axis → ℕ → List Point → Bool
misses a i g = not (touches (is_on a i) g)

-- whether line i is there and blank: the points of its cells are obstructions, and no further pattern has a point there
abbrev pub is_blank : Axis → ℕ → Tiles → Bool
is_blank a i t =
    nat_lt i (line_of a (sides t)) && (not (list_any (is_on a i) (active_cells t))
    && (list_all (λ g. (length g == 1) || misses a i g) t.obstructions && list_all (list_all (misses a i)) t.requirements))

-- the lines above i move down by one
abbrev pub closed_line : ℕ → ℕ → ℕ
closed_line i k = if nat_lt i k then k - 1 else k

abbrev pub close_cell : Axis → ℕ → Cell → Cell
close_cell a i c = with_line a (closed_line i (line_of a c)) c

abbrev pub close_up : Axis → ℕ → List Point → List Point
close_up a i g = move_cells (close_cell a i) g

abbrev pub without_line : Axis → ℕ → Tiles → Tiles
without_line a i t =
    let left = with_line a (line_of a (sides t) - 1) (sides t) in
    tiling_of left.x left.y (map (close_up a i) (filter (misses a i) t.obstructions)) (map (map (close_up a i)) t.requirements)

-- ---- each step
unfoldable pub step_applies : Step → Tiles → Bool
step_applies Void t = is_hopeless t && not (tiles_eq t void_tiling)
step_applies Min t = list_any (holds_another t.obstructions) t.obstructions
step_applies (Clean c) t = is_isolated t c && can_be_cleaned t c
step_applies Lists t = not (tiles_eq (tidy_lists t) t)
step_applies (Column x) t = is_blank axis.Column x t
step_applies (Row y) t = is_blank axis.Row y t

unfoldable pub step_result : Step → Tiles → Tiles
step_result Void t = void_tiling
step_result Min t = tiling_of t.width t.height (minimal t.obstructions) t.requirements
step_result (Clean c) t = clean c t
step_result Lists t = tidy_lists t
step_result (Column x) t = without_line axis.Column x t
step_result (Row y) t = without_line axis.Row y t

-- what a member becomes
abbrev pub rename : Step → List Point → List Point
rename (Column x) g = close_up axis.Column x g
rename (Row y) g = close_up axis.Row y g
rename _ g = g
