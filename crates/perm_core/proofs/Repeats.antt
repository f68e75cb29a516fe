-- No item stands twice: by places, and as a test.
use Rattle.std.proofs.Common.{◌≡◌, ℕ, zero, suc, ◌<◌, Bool, true, false, List, [], ◌∷◌, ◌++◌, length, get_or, refl, ◌∙◌, arith}
use Rattle.std.specs.Prelude.{◌&&◌, ◌||◌, ◌==◌, ◌≢◌, not}
use Rattle.std.specs.List.{list_any, AllByRecursion}
use Rattle.std.proofs.lemmas.Bool.Decides.{nat_tests}
use Rattle.std.proofs.lemmas.List.Folds.{list_any-append}
use Rattle.std.proofs.lemmas.Bool.{and_parts, not-true}
use Rattle.std.proofs.Math.Bool.{or-false}
use Rattle.patterns.specs.Words.{has_no_repeats}
use Rattle.patterns.specs.Laws.{IsPermutationOf}
use Rattle.perm_core.specs.Perms.{IsPerm, IsDistinct}

-- ---- an item that equals none of a list
none_equal : (x : ℕ) (xs : List ℕ) → ((k : ℕ) → k < length xs → x ≢ get_or xs k 0) → list_any (λ y. x == y) xs ≡ false
none_equal x [] h = refl
none_equal x (y ∷ xs) h =
    let first : (x == y) ≡ false = let differ : x ≢ y = h zero (omega arith) in grind (arith, nat_tests) in
    rw first (none_equal x xs (λ k l. h (suc k) (omega arith)))

differs_from_each : (x : ℕ) (xs : List ℕ) → list_any (λ y. x == y) xs ≡ false → (k : ℕ) → k < length xs → x ≢ get_or xs k 0
differs_from_each x [] e k l same = absurd (omega arith)
differs_from_each x (y ∷ xs) e k l same = go (x == y) refl e (λ f i l'. differs_from_each x xs f i l') k l same
  where
    go : (b : Bool) → (x == y) ≡ b → (b || list_any (λ z. x == z) xs) ≡ false → (list_any (λ z. x == z) xs ≡ false → (i : ℕ) → i < length xs → x ≢ get_or xs i 0) → (i : ℕ) → i < length (y ∷ xs) → x ≡ get_or (y ∷ xs) i 0 → ⊥
    go true f g ih i l' s = absurd cc
    go false f g ih zero l' s = grind (arith, nat_tests)
    go false f g ih (suc i) l' s = ih g i (omega arith) s

pub test_of_distinct : (w : List ℕ) → IsDistinct w → has_no_repeats w ≡ true
test_of_distinct [] h = refl
test_of_distinct (x ∷ xs) h =
    rw (none_equal x xs (λ k l. h (suc k) (omega arith) zero (omega arith)))
    (test_of_distinct xs (λ k l j m. h (suc k) (omega arith) (suc j) (omega arith)))

pub distinct_from_test : (w : List ℕ) → has_no_repeats w ≡ true → IsDistinct w
distinct_from_test [] e k l j m = absurd (omega arith)
distinct_from_test (x ∷ xs) e zero l j m = absurd (omega arith)
distinct_from_test (x ∷ xs) e (suc k) l zero m =
    differs_from_each x xs (not-true (list_any (λ y. x == y) xs) (and_parts (not (list_any (λ y. x == y) xs)) (has_no_repeats xs) e).0) k (omega arith)
distinct_from_test (x ∷ xs) e (suc k) l (suc j) m =
    distinct_from_test xs (and_parts (not (list_any (λ y. x == y) xs)) (has_no_repeats xs) e).1 k (omega arith) j (omega arith)

-- ---- permutations
below_each : (n : ℕ) (w : List ℕ) → ((k : ℕ) → k < length w → get_or w k 0 < n) → AllByRecursion (λ x. x < n) w
below_each n [] h = tt
below_each n (x ∷ w) h = (h zero (omega arith), below_each n w (λ k l. h (suc k) (omega arith)))

below_at : (n : ℕ) (w : List ℕ) → AllByRecursion (λ x. x < n) w → (k : ℕ) → k < length w → get_or w k 0 < n
below_at n [] h k l = absurd (omega arith)
below_at n (x ∷ w) h zero l = h.0
below_at n (x ∷ w) h (suc k) l = below_at n w h.1 k (omega arith)

-- a permutation is a word of its length that the list of permutations has
pub listed_perm : (w : List ℕ) → IsPerm w → IsPermutationOf (length w) w
listed_perm w h = record {
  as_long = refl;
  below = below_each (length w) w (λ k l. (h k l).below);
  distinct = test_of_distinct w (λ k l. (h k l).new);
}

pub perm_listed : (w : List ℕ) → IsPermutationOf (length w) w → IsPerm w
perm_listed w h k l = record { below = below_at (length w) w h.below k l; new = distinct_from_test w h.distinct k l }

-- ---- one more item
swapped : (x y : ℕ) → (x == y) ≡ (y == x)
swapped x y = grind (arith, nat_tests)

pub has_no_repeats-push : (w : List ℕ) (x : ℕ) → has_no_repeats (w ++ x ∷ []) ≡ (not (list_any (λ y. y == x) w) && has_no_repeats w)
has_no_repeats-push [] x = refl
has_no_repeats-push (z ∷ w) x =
    let met : list_any (λ y. z == y) (w ++ x ∷ []) ≡ (list_any (λ y. z == y) w || (z == x)) =
    list_any-append (λ y. z == y) w (x ∷ []) ∙ rw (or-false (z == x)) in
    rw (met, has_no_repeats-push w x) (shuffled (list_any (λ y. z == y) w) (z == x) (list_any (λ y. y == x) w) (has_no_repeats w))
  where
    shuffled : (p q r s : Bool) → (not (p || q) && (not r && s)) ≡ (not (q || r) && (not p && s))
    shuffled true true r s = refl
    shuffled false true r s = refl
    shuffled true false true s = refl
    shuffled true false false s = refl
    shuffled false false r s = refl
