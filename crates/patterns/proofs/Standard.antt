-- Standardising keeps the relative order, and its letters are below the length.
use Rattle.std.proofs.Common.{◌≡◌, ℕ, zero, suc, ◌+◌, ◌<◌, ◌≤◌, Bool, true, false, cond, List, [], ◌∷◌, length, get_or, refl, arith}
use Rattle.std.specs.Prelude.{◌↔◌, nat_lt}
use Rattle.std.proofs.lemmas.List.{length-map, get_or-map}
use Rattle.std.proofs.lemmas.List.Sums.{sum_by-cons, count_by-le-length}
use Rattle.std.proofs.lemmas.Bool.Decides.{nat_tests}
use Rattle.lists.specs.Members.IsIn.{here, later}
use Rattle.lists.specs.Members.{IsIn}
use Rattle.patterns.specs.Occurs.{IsSameOrder}
use Rattle.patterns.specs.Ranks.{rank, standardised}

abbrev pub one_below : ℕ → ℕ → ℕ
one_below x y = cond (nat_lt y x) 1 0

pub rank-cons : (y x : ℕ) (xs : List ℕ) → rank (y ∷ xs) x ≡ one_below x y + rank xs x
rank-cons y x xs = sum_by-cons (λ z. cond (nat_lt z x) 1 0) y xs

pub rank_le : (x y : ℕ) (xs : List ℕ) → x ≤ y → rank xs x ≤ rank xs y
rank_le x y [] h = omega arith
rank_le x y (z ∷ xs) h =
    let ih = rank_le x y xs h in
    let step : one_below x z ≤ one_below y z = grind (arith, nat_tests) in
    rw (rank-cons z x xs, rank-cons z y xs) (omega arith)

pub rank_lt : (x y : ℕ) {xs : List ℕ} → x < y → IsIn x xs → rank xs x < rank xs y
rank_lt x y h (here {xs = xs}) =
    let rest = rank_le x y xs (omega arith) in
    let mine : one_below x x ≡ 0 = grind (arith, nat_tests) in
    let other : one_below y x ≡ 1 = grind (arith, nat_tests) in
    rw (rank-cons x x xs, rank-cons x y xs) (omega arith)
rank_lt x y h (later {xs = xs} z m) =
    let ih = rank_lt x y h m in
    let step : one_below x z ≤ one_below y z = grind (arith, nat_tests) in
    rw (rank-cons z x xs, rank-cons z y xs) (omega arith)

pub rank-lt-length : (x : ℕ) {xs : List ℕ} → IsIn x xs → rank xs x < length xs
rank-lt-length x (here {xs = xs}) =
    let rest : rank xs x ≤ length xs = count_by-le-length (λ y. nat_lt y x) xs in
    let mine : one_below x x ≡ 0 = grind (arith, nat_tests) in
    rw (rank-cons x x xs) (omega arith)
rank-lt-length x (later {xs = xs} z m) =
    let ih = rank-lt-length x m in
    let small : one_below x z ≤ 1 = grind (arith, nat_tests) in
    rw (rank-cons z x xs) (omega arith)

pub in_at : (xs : List ℕ) (i : ℕ) → i < length xs → IsIn (get_or xs i 0) xs
in_at [] i h = absurd (omega arith)
in_at (x ∷ xs) zero h = here
in_at (x ∷ xs) (suc i) h = later x (in_at xs i (omega arith))

pub rank_order : (xs : List ℕ) (x y : ℕ) → IsIn x xs → IsIn y xs → (rank xs x < rank xs y) ↔ (x < y)
rank_order xs x y h k = ((λ l. lower x y l), (λ l. rank_lt x y l h))
  where
    lower : (a b : ℕ) → rank xs a < rank xs b → a < b
    lower a b l = go (nat_lt a b) refl
      where
        go : (t : Bool) → nat_lt a b ≡ t → a < b
        go true e = grind (arith, nat_tests)
        go false e = let up : b ≤ a = grind (arith, nat_tests) in let m = rank_le b a xs up in absurd (omega arith)

pub standardised_same_order : (xs : List ℕ) → IsSameOrder (standardised xs) xs
standardised_same_order xs = record {
  as_many = length-map xs (rank xs);
  alike = λ i j h k. rw (get_or-map (rank xs) xs i 0 0 h, get_or-map (rank xs) xs j 0 0 k) (rank_order xs (get_or xs i 0) (get_or xs j 0) (in_at xs i h) (in_at xs j k));
}
