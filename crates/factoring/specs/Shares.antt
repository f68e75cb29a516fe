-- The parts of the condition of a factoring.
use Rattle.std.specs.Prelude.{Bool, true, false, ◌||◌, ◌&&◌, not, ◌==◌, List, ◌∷◌, length, cond}
use Rattle.std.specs.declared.cmp.Ordering.{Ordering}
use Rattle.std.specs.declared.cmp.Ordering.TheVariants.{Less}
use Rattle.std.specs.List.{list_all, list_any}
use Rattle.std.specs.Cmp.Lexicographic.{pointwise, slice_cmp}
use Rattle.sequences.specs.Ascending.{in_order}
use Rattle.gridded.specs.declared.cell.Cell.{Cell}
use Rattle.gridded.specs.Axes.{shares_line}
use Rattle.gridded.specs.CellSets.{is_among}
use Rattle.gridded.specs.Grids.{Point}
use Rattle.gridded.specs.Orders.{cell_eq, cell_cmp}
use Rattle.gridded.specs.Parts.{lies_in}
use Rattle.rule_kinds.specs.Conditions.{all_of, is_whole}

-- the sets have these cells together
abbrev pub have_cells : List (List Cell) → List Cell → Bool
have_cells sets cells = pointwise cell_eq (in_order cell_cmp (all_of sets)) cells

-- one of the sets has the cell
abbrev pub is_covered : List (List Cell) → Cell → Bool
is_covered sets c = list_any (λ set. is_among set c) sets

-- it has exactly where the cell is one of the cells
abbrev pub agrees : List (List Cell) → List Cell → Cell → Bool
agrees sets cells c = cond (is_among cells c) (is_covered sets c) (not (is_covered sets c))

-- with repeats, they have as many
abbrev pub are_as_many : List (List Cell) → List Cell → Bool
are_as_many sets cells = length (all_of sets) == length cells

abbrev pub sets_ascend : List (List Cell) → Bool
sets_ascend sets = pointwise (pointwise cell_eq) (in_order (slice_cmp cell_cmp) sets) sets

abbrev pub is_less : Ordering → Bool
is_less Less = true
is_less _ = false

-- both sets have a cell, and the least of the first comes before that of the second
abbrev pub starts_before : List Cell → List Cell → Bool
starts_before (c ∷ first) (d ∷ second) = is_less (cell_cmp c d)
starts_before _ _ = false

-- whether some set has both cells
abbrev pub share_a_set : List (List Cell) → Cell → Cell → Bool
share_a_set sets c d = list_any (λ set. is_among set c && is_among set d) sets

-- where they share a line, some set has both
abbrev pub is_kept_with : List (List Cell) → Cell → Cell → Bool
is_kept_with sets c d = not (shares_line c d) || share_a_set sets c d

-- the patterns have points, all in one set
abbrev pub is_in_one : List (List Cell) → List (List Point) → Bool
is_in_one sets bundle = is_whole bundle && list_any (λ set. list_all (lies_in (is_among set)) bundle) sets
