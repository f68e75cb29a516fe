-- Rows on steps, computed.
use Rattle.std.specs.Prelude.{◌≡◌, ◌/◌, ◌%◌, ℕ, List, [], ◌∷◌, map, refl, true, false, Some, None}
use Rattle.patterns.specs.Occurs as X
use Rattle.gridded.specs.declared.cell.Cell.{Cell}
use Rattle.gridded.specs.Grids.{Point, points}
use Rattle.tiling_core.specs.Tiles.{Tiles, tiling_of}
use Rattle.steps.specs.Steps as S
use Rattle.steps.specs.declared.step.Step.TheVariants.{Min, Clean, Lists, Column, Row, Void}
use Rattle.steps.specs.Steps.{step_applies, step_result}
use Rattle.steps.specs.Traces.{replay, first_step}

-- the cell with these two digits
abbrev cell : ℕ → Cell
cell n = record { x = n / 10; y = n % 10 }

abbrev pattern : List ℕ → List ℕ → List Point
pattern letters cells = points letters (map cell cells)

abbrev dot : ℕ → List Point
dot c = pattern (0 ∷ []) (c ∷ [])

abbrev up : ℕ → ℕ → List Point
up c d = pattern (0 ∷ 1 ∷ []) (c ∷ d ∷ [])

abbrev down : ℕ → ℕ → List Point
down c d = pattern (1 ∷ 0 ∷ []) (c ∷ d ∷ [])

abbrev unit : Tiles
unit = tiling_of 0 0 [] []

-- ---- Min
min_result : step_result Min (tiling_of 1 1 (dot 0 ∷ up 0 0 ∷ []) []) ≡ tiling_of 1 1 (dot 0 ∷ []) []
unfolding X.occurs S.step_applies S.step_result
min_result = refl

min_applies : step_applies Min (tiling_of 1 1 (dot 0 ∷ up 0 0 ∷ []) []) ≡ true
unfolding X.occurs S.step_applies S.step_result
min_applies = refl

min_no_more : step_applies Min (tiling_of 1 1 (dot 0 ∷ []) []) ≡ false
unfolding X.occurs S.step_applies S.step_result
min_no_more = refl

min_twice : replay (tiling_of 1 1 (dot 0 ∷ up 0 0 ∷ []) []) (Min ∷ Min ∷ []) ≡ None
unfolding X.occurs S.step_applies S.step_result
min_twice = refl

-- ---- Column and Row
-- the only cell is blank: the column goes, and then the row, which has no cell
blank_root : replay (tiling_of 1 1 (dot 0 ∷ []) []) (Column 0 ∷ Row 0 ∷ []) ≡ Some unit
unfolding X.occurs S.step_applies S.step_result
blank_root = refl

blank_root_first : first_step (tiling_of 1 1 (dot 0 ∷ []) []) ≡ Some (Column 0)
unfolding X.occurs S.step_applies S.step_result
blank_root_first = refl

left_column : step_result (Column 0) (tiling_of 2 1 (dot 0 ∷ up 10 10 ∷ []) []) ≡ tiling_of 1 1 (up 0 0 ∷ []) []
unfolding X.occurs S.step_applies S.step_result
left_column = refl

right_column : step_result (Column 1) (tiling_of 2 1 (dot 10 ∷ up 0 0 ∷ []) []) ≡ tiling_of 1 1 (up 0 0 ∷ []) []
unfolding X.occurs S.step_applies S.step_result
right_column = refl

low_row : step_result (Row 0) (tiling_of 1 2 (dot 0 ∷ down 1 1 ∷ []) []) ≡ tiling_of 1 1 (down 0 0 ∷ []) []
unfolding X.occurs S.step_applies S.step_result
low_row = refl

high_row : step_result (Row 1) (tiling_of 1 2 (dot 1 ∷ down 0 0 ∷ []) []) ≡ tiling_of 1 1 (down 0 0 ∷ []) []
unfolding X.occurs S.step_applies S.step_result
high_row = refl

row_is_no_column : step_applies (Row 0) (tiling_of 2 1 (dot 0 ∷ []) []) ≡ false
unfolding X.occurs S.step_applies S.step_result
row_is_no_column = refl

column_is_there : step_applies (Column 0) (tiling_of 2 1 (dot 0 ∷ []) []) ≡ true
unfolding X.occurs S.step_applies S.step_result
column_is_there = refl

past_the_grid : step_applies (Column 2) (tiling_of 2 1 (dot 0 ∷ []) []) ≡ false
unfolding X.occurs S.step_applies S.step_result
past_the_grid = refl

-- a list member keeps its column
kept_by_a_list : step_applies (Column 0) (tiling_of 1 1 (dot 0 ∷ []) ((dot 0 ∷ []) ∷ [])) ≡ false
unfolding X.occurs S.step_applies S.step_result
kept_by_a_list = refl

-- where a column and a row can go, the column goes first
columns_first : first_step (tiling_of 3 3 (dot 0 ∷ dot 1 ∷ dot 2 ∷ dot 10 ∷ dot 20 ∷ up 11 22 ∷ []) []) ≡ Some (Column 0)
unfolding X.occurs S.step_applies S.step_result
columns_first = refl

column_then_row : replay (tiling_of 3 3 (dot 0 ∷ dot 1 ∷ dot 2 ∷ dot 10 ∷ dot 20 ∷ up 11 22 ∷ []) []) (Column 0 ∷ Row 0 ∷ []) ≡ Some (tiling_of 2 2 (up 0 11 ∷ []) [])
unfolding X.occurs S.step_applies S.step_result
column_then_row = refl

-- ---- Lists
-- of three lists that imply each other in turn the strongest stays
strongest_list : step_result Lists (tiling_of 2 1 [] ((dot 0 ∷ []) ∷ (dot 0 ∷ dot 10 ∷ []) ∷ (up 0 10 ∷ []) ∷ [])) ≡ tiling_of 2 1 [] ((up 0 10 ∷ []) ∷ [])
unfolding X.occurs S.step_applies S.step_result
strongest_list = refl

-- a list whose members hold those of another implies it
implied_list : step_result Lists (tiling_of 1 1 [] ((dot 0 ∷ []) ∷ (up 0 0 ∷ down 0 0 ∷ []) ∷ [])) ≡ tiling_of 1 1 [] ((up 0 0 ∷ down 0 0 ∷ []) ∷ [])
unfolding X.occurs S.step_applies S.step_result
implied_list = refl

-- an empty list drops every other
empty_list : step_result Lists (tiling_of 1 1 [] ((dot 0 ∷ []) ∷ [] ∷ [])) ≡ tiling_of 1 1 [] ([] ∷ [])
unfolding X.occurs S.step_applies S.step_result
empty_list = refl

-- a list with the empty pattern goes, with what it would imply not
list_of_empty : step_result Lists (tiling_of 1 1 [] (([] ∷ dot 0 ∷ []) ∷ (up 0 0 ∷ []) ∷ [])) ≡ tiling_of 1 1 [] ((up 0 0 ∷ []) ∷ [])
unfolding X.occurs S.step_applies S.step_result
list_of_empty = refl

-- members that hold an obstruction, or another member, go
useless_members : step_result Lists (tiling_of 1 1 (down 0 0 ∷ []) ((down 0 0 ∷ up 0 0 ∷ pattern (0 ∷ 1 ∷ 2 ∷ []) (0 ∷ 0 ∷ 0 ∷ []) ∷ []) ∷ [])) ≡ tiling_of 1 1 (down 0 0 ∷ []) ((up 0 0 ∷ []) ∷ [])
unfolding X.occurs S.step_applies S.step_result
useless_members = refl

-- ---- Void
void_by_a_list : step_applies Void (tiling_of 1 1 [] ([] ∷ [])) ≡ true
unfolding X.occurs S.step_applies S.step_result
void_by_a_list = refl

void_by_the_empty_pattern : step_applies Void (tiling_of 1 1 ([] ∷ []) []) ≡ true
unfolding X.occurs S.step_applies S.step_result
void_by_the_empty_pattern = refl

void_is_void : step_applies Void (tiling_of 0 0 ([] ∷ []) []) ≡ false
unfolding X.occurs S.step_applies S.step_result
void_is_void = refl

void_result : step_result Void (tiling_of 1 1 [] ([] ∷ [])) ≡ tiling_of 0 0 ([] ∷ []) []
unfolding X.occurs S.step_applies S.step_result
void_result = refl

-- ---- Clean
-- the point cell 00, beside the cell 11
abbrev beside : List (List Point) → List (List (List Point)) → Tiles
beside obstructions lists = tiling_of 2 2 (dot 1 ∷ dot 10 ∷ up 0 0 ∷ down 0 0 ∷ obstructions) ((dot 0 ∷ []) ∷ lists)

clean_obstruction : step_result (Clean (cell 0)) (beside (up 0 11 ∷ []) []) ≡ beside (dot 11 ∷ []) []
unfolding X.occurs S.step_applies S.step_result
clean_obstruction = refl

clean_applies : step_applies (Clean (cell 0)) (beside (up 0 11 ∷ []) []) ≡ true
unfolding X.occurs S.step_applies S.step_result
clean_applies = refl

clean_list : step_result (Clean (cell 0)) (beside [] ((up 0 11 ∷ []) ∷ [])) ≡ beside [] ((dot 11 ∷ []) ∷ [])
unfolding X.occurs S.step_applies S.step_result
clean_list = refl

-- the list of the point itself is left alone, a list with the point and another member isn't
clean_longer_list : step_result (Clean (cell 0)) (beside [] ((dot 0 ∷ dot 11 ∷ []) ∷ [])) ≡ beside [] (([] ∷ dot 11 ∷ []) ∷ [])
unfolding X.occurs S.step_applies S.step_result
clean_longer_list = refl

-- a member with two points in the cell keeps both
two_points_stay : step_result (Clean (cell 0)) (tiling_of 1 1 (up 0 0 ∷ down 0 0 ∷ []) ((dot 0 ∷ []) ∷ (dot 0 ∷ up 0 0 ∷ []) ∷ [])) ≡ tiling_of 1 1 (up 0 0 ∷ down 0 0 ∷ []) ((dot 0 ∷ []) ∷ ([] ∷ up 0 0 ∷ []) ∷ [])
unfolding X.occurs S.step_applies S.step_result
two_points_stay = refl

clean_nothing : step_applies (Clean (cell 0)) (beside (up 11 11 ∷ []) []) ≡ false
unfolding X.occurs S.step_applies S.step_result
clean_nothing = refl

-- another active cell in the row
clean_not_alone : step_applies (Clean (cell 0)) (tiling_of 2 2 (dot 1 ∷ up 0 0 ∷ down 0 0 ∷ up 0 11 ∷ []) ((dot 0 ∷ []) ∷ [])) ≡ false
unfolding X.occurs S.step_applies S.step_result
clean_not_alone = refl

-- another active cell in the column
clean_not_alone_above : step_applies (Clean (cell 0)) (tiling_of 2 2 (dot 10 ∷ up 0 0 ∷ down 0 0 ∷ up 0 11 ∷ []) ((dot 0 ∷ []) ∷ [])) ≡ false
unfolding X.occurs S.step_applies S.step_result
clean_not_alone_above = refl
