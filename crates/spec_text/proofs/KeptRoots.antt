-- The 1x1 tiling of a basis is a tiling.
use Rattle.std.proofs.Common.{◌≡◌, ◌<◌, ℕ, suc, true, List, [], ◌∷◌, length, map, refl, sym, ap, subst, ◌∙◌, arith}
use Rattle.std.specs.Prelude.{slice_index}
use Rattle.std.specs.List.{list_all, sum_by}
use Rattle.std.proofs.lemmas.List.Sums.{sum_by-cons}
use Rattle.std.proofs.lemmas.Bool.{and_from}
use Rattle.std.proofs.lemmas.Grind.{common_steps}
use Rattle.std.proofs.lemmas.List.{length-map}
use Rattle.lists.specs.Members.{IsIn}
use Rattle.lists.specs.Members.IsIn.{here, later}
use Rattle.lists.proofs.Members.{of_all, all_in, from_IsIn-map}
use Rattle.patterns.specs.Words.{has_no_repeats}
use Rattle.perm_core.specs.Basis.{IsBasis, IsBasisPerm}
use Rattle.perm_core.proofs.Repeats.{test_of_distinct}
use Rattle.gridded.specs.Grids.{Point, IsGridded, is_consistent, may_follow}
use Rattle.gridded.specs.Orders.{gridded_cmp}
use Rattle.gridded.specs.Places.{fits_grid}
use Rattle.sequences.specs.Ascending.{in_order}
use Rattle.sequences.proofs.Sums.{in_order_sum}
use Rattle.tiling_core.specs.Tiles.{IsTiling, IsKept, AreGridded, IsInGrid}
use Rattle.tiling_core.specs.Roots.{in_one_cell, only_cell, root_of}
use Rattle.tiling_core.proofs.Kept.{IsTiling-in_order}
use Rattle.tiling_core.proofs.Roots.{letters_in_one_cell}

letter_below : (w : List ℕ) (n : ℕ) → ((k : ℕ) → k < length w → slice_index w k < n) → (p : Point) → IsIn p (in_one_cell w) → p.letter < n
letter_below [] n each p there = elim there [ ]
letter_below (x ∷ w) n each p here = each 0 (omega arith)
letter_below (x ∷ w) n each p (later q there) = letter_below w n (λ k h. each (suc k) (omega (arith, h))) p there

follows : (x : ℕ) (w : List ℕ) → list_all (λ q. may_follow (record { letter = x; cell = only_cell }) q) (in_one_cell w) ≡ true
follows x [] = refl
follows x (y ∷ w) = and_from (may_follow (record { letter = x; cell = only_cell }) (record { letter = y; cell = only_cell })) (list_all (λ q. may_follow (record { letter = x; cell = only_cell }) q) (in_one_cell w)) (grind (arith, common_steps)) (follows x w)

consistent : (w : List ℕ) → is_consistent (in_one_cell w) ≡ true
consistent [] = refl
consistent (x ∷ w) = and_from (list_all (λ q. may_follow (record { letter = x; cell = only_cell }) q) (in_one_cell w)) (is_consistent (in_one_cell w)) (follows x w) (consistent w)

inside : (w : List ℕ) → fits_grid 1 1 (in_one_cell w) ≡ true
inside [] = refl
inside (x ∷ w) = inside w

gridded : (w : List ℕ) → IsBasisPerm w → IsGridded (in_one_cell w)
gridded w kept =
    let long : length (in_one_cell w) ≡ length w = length-map w (λ l. record { letter = l; cell = only_cell }) in
    let short = kept.short in
    record {
      short = omega (arith, long, short);
      below = all_in (λ (p : Point). p.letter < length (in_one_cell w)) (in_one_cell w) (λ p there. subst (λ n. p.letter < n) (sym long) (letter_below w (length w) (λ k h. (kept.perm k h).below) p there));
      distinct = ap has_no_repeats (letters_in_one_cell w) ∙ test_of_distinct w (λ k h. (kept.perm k h).new);
      consistent = consistent w;
    }

ones : {X : Type 0} (xs : List X) → sum_by (λ _. 1) xs ≡ length xs
ones [] = refl
ones (x ∷ xs) = omega (arith, ones xs, sum_by-cons (λ _. 1) x xs)

pub root_is_tiling : (words : List (List ℕ)) → IsBasis words → IsTiling (root_of words)
root_is_tiling words kept =
    let patterns = map in_one_cell words in
    let few = kept.few in
    let long : length patterns ≡ length words = length-map words in_one_cell in
    let sum = in_order_sum gridded_cmp (λ _. 1) patterns in
    let before = ones patterns in
    let after = ones (in_order gridded_cmp patterns) in
    IsTiling-in_order 1 1 patterns (in_order gridded_cmp patterns) [] [] [] refl refl refl
    (all_in (λ g. IsGridded g) patterns (λ g there. let from = from_IsIn-map in_one_cell words there in subst (λ x. IsGridded x) (sym (from.2)) (gridded (from.0) (of_all IsBasisPerm kept.perms (from.1)))))
    (all_in (λ gs. AreGridded gs) [] (λ gs there. elim there [ ])) (omega arith) (omega arith)
    (all_in (λ g. fits_grid 1 1 g ≡ true) patterns (λ g there. let from = from_IsIn-map in_one_cell words there in subst (λ x. fits_grid 1 1 x ≡ true) (sym (from.2)) (inside (from.0))))
    (all_in (λ gs. IsInGrid 1 1 gs) [] (λ gs there. elim there [ ])) (omega (arith, few, long, sum, before, after)) (all_in (λ gs. IsKept gs) [] (λ gs there. elim there [ ])) (omega arith)
