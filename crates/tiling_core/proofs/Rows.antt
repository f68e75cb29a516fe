-- Tilings by calculation: members, active cells, positivity and weight.
use Rattle.std.specs.Prelude.{◌≡◌, ℕ, true, false, List, [], ◌∷◌}
use Rattle.std.proofs.Common.{refl}
use Rattle.patterns.specs.Occurs.{occurs}
use Rattle.gridded.specs.declared.cell.Cell.{Cell}
use Rattle.gridded.specs.Grids.{Point, points}
use Rattle.tiling_core.specs.Tiles.{Tiles, tiling_of, is_member}
use Rattle.tiling_core.specs.Patterns.{active_cells}
use Rattle.tiling_core.specs.Measures.{is_positive, weight}

abbrev at : ℕ → ℕ → Cell
at x y = record { x = x; y = y }

empty_avoids : is_member (tiling_of 1 2 ((points (0 ∷ 1 ∷ []) (at 0 0 ∷ at 0 1 ∷ [])) ∷ []) []) [] ≡ true
unfolding occurs
empty_avoids = refl

falls_in_a_forbidden_way : is_member (tiling_of 2 1 ((points (0 ∷ 1 ∷ []) (at 1 0 ∷ at 1 0 ∷ [])) ∷ (points (1 ∷ 0 ∷ []) (at 1 0 ∷ at 1 0 ∷ [])) ∷ (points (0 ∷ 2 ∷ 1 ∷ []) (at 0 0 ∷ at 1 0 ∷ at 1 0 ∷ [])) ∷ []) []) (points (1 ∷ 0 ∷ []) (at 1 0 ∷ at 1 0 ∷ [])) ≡ false
unfolding occurs
falls_in_a_forbidden_way = refl

lacks_a_list : is_member (tiling_of 1 2 ((points (0 ∷ 1 ∷ []) (at 0 0 ∷ at 0 1 ∷ [])) ∷ (points (1 ∷ 0 ∷ []) (at 0 1 ∷ at 0 1 ∷ [])) ∷ []) (((points (0 ∷ []) (at 0 0 ∷ [])) ∷ (points (1 ∷ 0 ∷ []) (at 0 1 ∷ at 0 1 ∷ [])) ∷ []) ∷ ((points (0 ∷ []) (at 0 1 ∷ [])) ∷ []) ∷ [])) (points (1 ∷ 0 ∷ []) (at 0 0 ∷ at 0 0 ∷ [])) ≡ false
unfolding occurs
lacks_a_list = refl

abbrev two_columns : Tiles
two_columns = tiling_of 2 1 ((points (0 ∷ []) (at 0 0 ∷ [])) ∷ []) (((points (0 ∷ []) (at 1 0 ∷ [])) ∷ (points (0 ∷ 1 ∷ []) (at 0 0 ∷ at 1 0 ∷ [])) ∷ []) ∷ ((points (0 ∷ 1 ∷ 2 ∷ []) (at 0 0 ∷ at 0 0 ∷ at 0 0 ∷ [])) ∷ []) ∷ [])

two_columns_cells : active_cells two_columns ≡ at 1 0 ∷ []
two_columns_cells = refl

two_columns_positive : is_positive two_columns ≡ true
two_columns_positive = refl

two_columns_weight : weight two_columns ≡ 5
two_columns_weight = refl

abbrev two_rows : Tiles
two_rows = tiling_of 1 2 ((points (0 ∷ []) (at 0 1 ∷ [])) ∷ (points (1 ∷ 0 ∷ []) (at 0 0 ∷ at 0 0 ∷ [])) ∷ []) (((points (0 ∷ []) (at 0 1 ∷ [])) ∷ []) ∷ ((points (0 ∷ []) (at 0 1 ∷ [])) ∷ (points (1 ∷ 0 ∷ []) (at 0 0 ∷ at 0 0 ∷ [])) ∷ (points (1 ∷ 0 ∷ []) (at 0 1 ∷ at 0 0 ∷ [])) ∷ []) ∷ [])

two_rows_cells : active_cells two_rows ≡ at 0 0 ∷ []
two_rows_cells = refl

two_rows_positive : is_positive two_rows ≡ true
two_rows_positive = refl

two_rows_weight : weight two_rows ≡ 3
two_rows_weight = refl

abbrev with_empty_pattern : Tiles
with_empty_pattern = tiling_of 1 1 [] (([] ∷ (points (0 ∷ []) (at 0 0 ∷ [])) ∷ []) ∷ [])

with_empty_pattern_cells : active_cells with_empty_pattern ≡ at 0 0 ∷ []
with_empty_pattern_cells = refl

with_empty_pattern_positive : is_positive with_empty_pattern ≡ false
with_empty_pattern_positive = refl

with_empty_pattern_weight : weight with_empty_pattern ≡ 1
with_empty_pattern_weight = refl

abbrev with_empty_list : Tiles
with_empty_list = tiling_of 1 1 [] ([] ∷ ([] ∷ []) ∷ [])

with_empty_list_cells : active_cells with_empty_list ≡ at 0 0 ∷ []
with_empty_list_cells = refl

with_empty_list_positive : is_positive with_empty_list ≡ true
with_empty_list_positive = refl

with_empty_list_weight : weight with_empty_list ≡ 0
with_empty_list_weight = refl
