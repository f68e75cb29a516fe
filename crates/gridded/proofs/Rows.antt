-- Gridded permutations by calculation: what is held, removed points and restrictions.
use Rattle.std.specs.Prelude.{◌≡◌, ℕ, true, false, [], ◌∷◌}
use Rattle.std.proofs.Common.{refl}
use Rattle.patterns.specs.Occurs.{occurs}
use Rattle.gridded.specs.declared.cell.Cell.{Cell}
use Rattle.gridded.specs.Grids.{points, holds}
use Rattle.gridded.specs.CellSets.{is_among}
use Rattle.gridded.specs.Parts.{without_point, restricted}

abbrev at : ℕ → ℕ → Cell
at x y = record { x = x; y = y }

falls_across : holds (points (2 ∷ 3 ∷ 0 ∷ 4 ∷ 5 ∷ 1 ∷ []) (at 0 0 ∷ at 0 0 ∷ at 1 0 ∷ at 2 1 ∷ at 2 1 ∷ at 2 0 ∷ [])) (points (1 ∷ 0 ∷ []) (at 0 0 ∷ at 2 0 ∷ [])) ≡ true
unfolding occurs
falls_across = refl

one_point_there : holds (points (1 ∷ 2 ∷ 0 ∷ 4 ∷ 3 ∷ []) (at 0 0 ∷ at 0 0 ∷ at 0 0 ∷ at 1 0 ∷ at 1 0 ∷ [])) (points (0 ∷ []) (at 1 0 ∷ [])) ≡ true
unfolding occurs
one_point_there = refl

other_cells : holds (points (2 ∷ 1 ∷ 0 ∷ []) (at 1 0 ∷ at 2 0 ∷ at 2 0 ∷ [])) (points (0 ∷ 2 ∷ 1 ∷ []) (at 0 0 ∷ at 1 0 ∷ at 1 0 ∷ [])) ≡ false
unfolding occurs
other_cells = refl

not_there : holds (points (0 ∷ []) (at 1 1 ∷ [])) (points (1 ∷ 0 ∷ []) (at 1 0 ∷ at 2 0 ∷ [])) ≡ false
unfolding occurs
not_there = refl

third_removed : without_point (points (1 ∷ 3 ∷ 2 ∷ 0 ∷ 4 ∷ []) (at 0 1 ∷ at 0 2 ∷ at 0 1 ∷ at 1 0 ∷ at 2 2 ∷ [])) 2 ≡ points (1 ∷ 2 ∷ 0 ∷ 3 ∷ []) (at 0 1 ∷ at 0 2 ∷ at 1 0 ∷ at 2 2 ∷ [])
third_removed = refl

fourth_removed : without_point (points (1 ∷ 0 ∷ 3 ∷ 4 ∷ 2 ∷ []) (at 0 0 ∷ at 0 0 ∷ at 0 1 ∷ at 0 1 ∷ at 1 1 ∷ [])) 3 ≡ points (1 ∷ 0 ∷ 3 ∷ 2 ∷ []) (at 0 0 ∷ at 0 0 ∷ at 0 1 ∷ at 1 1 ∷ [])
fourth_removed = refl

first_removed : without_point (points (1 ∷ 3 ∷ 0 ∷ 2 ∷ []) (at 0 0 ∷ at 0 0 ∷ at 1 0 ∷ at 1 0 ∷ [])) 0 ≡ points (2 ∷ 0 ∷ 1 ∷ []) (at 0 0 ∷ at 1 0 ∷ at 1 0 ∷ [])
first_removed = refl

three_left : restricted (is_among (at 0 0 ∷ at 0 2 ∷ [])) (points (2 ∷ 3 ∷ 0 ∷ 1 ∷ []) (at 0 2 ∷ at 0 2 ∷ at 0 0 ∷ at 1 1 ∷ [])) ≡ points (1 ∷ 2 ∷ 0 ∷ []) (at 0 2 ∷ at 0 2 ∷ at 0 0 ∷ [])
three_left = refl

two_left : restricted (is_among (at 1 0 ∷ at 1 2 ∷ [])) (points (2 ∷ 0 ∷ 1 ∷ []) (at 1 2 ∷ at 1 0 ∷ at 2 0 ∷ [])) ≡ points (1 ∷ 0 ∷ []) (at 1 2 ∷ at 1 0 ∷ [])
two_left = refl

none_left : restricted (is_among (at 2 0 ∷ [])) (points (1 ∷ 0 ∷ 2 ∷ []) (at 0 0 ∷ at 0 0 ∷ at 1 0 ∷ [])) ≡ []
none_left = refl
