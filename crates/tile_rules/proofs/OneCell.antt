-- Words with all their letters in one cell.
use Rattle.std.proofs.Common.{◌≡◌, ℕ, zero, suc, ◌<◌, ◌≤◌, Bool, true, false, List, [], ◌∷◌, length, take, refl, sym, ap, ◌∙◌, subst, arith}
use Rattle.std.specs.Prelude.{map, All, IsTrue}
use Rattle.std.specs.List.{AllByRecursion}
use Rattle.std.proofs.lemmas.List.Elements.{All-from_recursion}
use Rattle.patterns.specs.Words.{has_no_repeats}
use Rattle.patterns.specs.Laws.{IsPermutationOf}
use Rattle.gridded.specs.declared.cell.Cell.{Cell}
use Rattle.gridded.specs.Grids.{Point, points, FitTogether, IsGridded, is_consistent}
use Rattle.tiling_core.specs.Tiles.{IsInGrid}
use Rattle.gridded.specs.Places.{fits_grid}
use Rattle.tiling_core.specs.Roots.{in_one_cell, only_cell}
use Rattle.tiling_core.proofs.Roots.{letters_in_one_cell, consistent_in_one_cell, fits_one_cell}

abbrev pub nine_corners : List Cell
nine_corners = let o = only_cell in o ∷ o ∷ o ∷ o ∷ o ∷ o ∷ o ∷ o ∷ o ∷ []

-- ---- a word in one cell
-- so many times the corner
abbrev pub corners : ℕ → List Cell
corners zero = []
corners (suc n) = only_cell ∷ corners n

take_corners : (n m : ℕ) → n ≤ m → take n (corners m) ≡ corners n
take_corners zero m h = refl
take_corners (suc n) zero h = absurd (omega arith)
take_corners (suc n) (suc m) h = ap (λ cs. only_cell ∷ cs) (take_corners n m (omega arith))

points_in_corner : (w : List ℕ) → points w (corners (length w)) ≡ in_one_cell w
points_in_corner [] = refl
points_in_corner (l ∷ w) = ap (λ g. record { letter = l; cell = only_cell } ∷ g) (points_in_corner w)

pub points-corners : (w : List ℕ) → length w ≤ 9 → points w (take (length w) nine_corners) ≡ in_one_cell w
points-corners w h = ap (points w) (take_corners (length w) 9 h) ∙ points_in_corner w

length-corner : (w : List ℕ) → length (in_one_cell w) ≡ length w
length-corner [] = refl
length-corner (l ∷ w) = ap suc (length-corner w)

below : (n : ℕ) (w : List ℕ) → AllByRecursion (λ x. x < n) w → AllByRecursion (λ (p : Point). p.letter < n) (in_one_cell w)
below n [] h = tt
below n (l ∷ w) h = (h.0, below n w h.1)

is_true : (b : Bool) → b ≡ true → IsTrue b
is_true true e = refl
is_true false e = e

pub gridded_in_corner : (w : List ℕ) → IsPermutationOf (length w) w → length w ≤ 9 → IsGridded (in_one_cell w)
gridded_in_corner w p h = record {
  short = rw (length-corner w) h;
  below = subst (λ n. All (λ (q : Point). q.letter < n) (in_one_cell w)) (sym (length-corner w)) (All-from_recursion (λ (q : Point). q.letter < length w) (in_one_cell w) (below (length w) w p.below));
  distinct = rw (letters_in_one_cell w) (is_true (has_no_repeats w) p.distinct);
  consistent = is_true (is_consistent (in_one_cell w)) (consistent_in_one_cell w);
}

length_corners : (n : ℕ) → length (corners n) ≡ n
length_corners zero = refl
length_corners (suc n) = ap suc (length_corners n)

pub fit_in_corner : (w : List ℕ) → IsPermutationOf (length w) w → length w ≤ 9 → FitTogether w (take (length w) nine_corners)
fit_in_corner w p h = record {
  as_many = sym (ap length (take_corners (length w) 9 h) ∙ length_corners (length w));
  gridded = rw (points-corners w h) (gridded_in_corner w p h);
}

pub ruleset placing = (points-corners, fit_in_corner)

-- ---- the grid of one cell
words_inside : (basis : List (List ℕ)) → AllByRecursion (λ g. fits_grid 1 1 g ≡ true) (map in_one_cell basis)
words_inside [] = tt
words_inside (w ∷ basis) = (fits_one_cell w, words_inside basis)

pub IsInGrid-words : (basis : List (List ℕ)) → IsInGrid 1 1 (map in_one_cell basis)
IsInGrid-words basis = All-from_recursion (λ g. fits_grid 1 1 g ≡ true) (map in_one_cell basis) (words_inside basis)

pub ruleset inside = (IsInGrid-words)
