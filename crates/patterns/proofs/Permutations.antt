-- A permutation is told by its relative order: as many of its letters are smaller as a letter says.
use Rattle.std.proofs.Common.{◌≡◌, ℕ, zero, suc, ◌+◌, ◌-◌, ◌<◌, ◌≤◌, Bool, true, false, cond, List, [], ◌∷◌, length, get_or, refl, sym, ◌∙◌, subst, arith}
use Rattle.std.specs.Prelude.{◌↔◌, ◌==◌, ◌||◌, not, nat_lt, count_by}
use Rattle.std.specs.List.{filter, range_with_len, list_any, AllByRecursion}
use Rattle.std.proofs.lemmas.List.FromFn.{length-range_with_len}
use Rattle.std.proofs.lemmas.List.{same_lists}
use Rattle.std.proofs.lemmas.List.Sums.{sum_by-cons, length-filter}
use Rattle.std.proofs.lemmas.List.Filters.{length-filter_both}
use Rattle.std.proofs.lemmas.Bool.Decides.{nat_tests, Decides-eqb}
use Rattle.std.proofs.lemmas.Bool.{and_parts, not-true}
use Rattle.lists.specs.Members.IsIn.{here, later}
use Rattle.lists.specs.Members.NoRepeats.{no_element, one_more}
use Rattle.lists.proofs.Tests.{same_test}
use Rattle.lists.specs.Members.{IsIn, NoRepeats}
use Rattle.lists.proofs.Members.{from_IsIn-filter, of_each}
use Rattle.lists.proofs.Repeats.{NoRepeats-filter}
use Rattle.lists.proofs.Injections.{length-le_from_injection}
use Rattle.lists.proofs.Ranges.{in_range_with_len}
use Rattle.patterns.specs.Words.{has_no_repeats}
use Rattle.patterns.specs.Laws.{IsPermutationOf}
use Rattle.patterns.specs.Ranks.{rank}
use Rattle.patterns.specs.Occurs.{IsSameOrder}
use Rattle.patterns.proofs.Standard.{in_at}

pub any_of : (x : ℕ) {xs : List ℕ} → IsIn x xs → list_any (λ y. x == y) xs ≡ true
any_of x (here {xs = xs}) = let e : (x == x) ≡ true = (Decides-eqb x x).1 refl in rw e refl
any_of x (later {xs = xs} y m) = go (x == y) (any_of x m)
  where
    go : (b : Bool) → list_any (λ z. x == z) xs ≡ true → (b || list_any (λ z. x == z) xs) ≡ true
    go true ih = refl
    go false ih = ih

pub distinct-NoRepeats : (xs : List ℕ) → has_no_repeats xs ≡ true → NoRepeats xs
distinct-NoRepeats [] h = no_element
distinct-NoRepeats (x ∷ xs) h =
    let k = and_parts (not (list_any (λ y. x == y) xs)) (has_no_repeats xs) h in
    one_more (λ m. let a = any_of x m in let n = not-true _ k.0 in absurd cc) (distinct-NoRepeats xs k.1)

at_most : (xs : List ℕ) (t : ℕ → Bool) (a n : ℕ) → NoRepeats xs → ((x : ℕ) → IsIn x xs → t x ≡ true → (a ≤ x) × (x < a + n)) → length (filter t xs) ≤ n
at_most xs t a n r h =
    let into : length (filter t xs) ≤ length (range_with_len a n) =
    length-le_from_injection (λ (x : ℕ). x) (range_with_len a n) (NoRepeats-filter t r)
    (λ x m. let k = from_IsIn-filter t xs m in let w = h x k.0 k.1 in in_range_with_len a n x w.0 w.1) (λ x z i j e. e) in
    omega (arith, into, length-range_with_len a n)

pub rank-letters : (xs : List ℕ) → has_no_repeats xs ≡ true → AllByRecursion (λ x. x < length xs) xs → (l : ℕ) → l ≤ length xs → rank xs l ≡ l
rank-letters xs d b l h =
    let r = distinct-NoRepeats xs d in
    let lows : length (filter (λ x. nat_lt x l) xs) ≤ l = at_most xs (λ x. nat_lt x l) 0 l r (λ x m e. (omega arith, is_lt x l e)) in
    let highs : length (filter (λ x. not (nat_lt x l)) xs) ≤ length xs - l = at_most xs (λ x. not (nat_lt x l)) l (length xs - l) r (λ x m e. let small = of_each (λ y. y < length xs) b m in (is_ge x l e, omega (arith, small))) in
    let both : length (filter (λ x. nat_lt x l) xs) + length (filter (λ x. not (nat_lt x l)) xs) ≡ length xs = length-filter_both (λ (x : ℕ). nat_lt x l) (λ x. not (nat_lt x l)) (λ x. refl) xs in
    sym (length-filter (λ (x : ℕ). nat_lt x l) xs) ∙ omega (arith, lows, highs, both)
  where
    is_lt : (x k : ℕ) → nat_lt x k ≡ true → x < 0 + k
    is_lt x k e = grind (arith, nat_tests)

    is_ge : (x k : ℕ) → not (nat_lt x k) ≡ true → k ≤ x
    is_ge x k e = grind (arith, nat_tests)

count_alike : (p q : ℕ → Bool) (xs ys : List ℕ) → length xs ≡ length ys → ((j : ℕ) → j < length ys → p (get_or xs j 0) ≡ q (get_or ys j 0)) → count_by p xs ≡ count_by q ys
count_alike p q [] [] e f = refl
count_alike p q (x ∷ xs) [] e f = absurd (omega arith)
count_alike p q [] (y ∷ ys) e f = absurd (omega arith)
count_alike p q (x ∷ xs) (y ∷ ys) e f =
    let ih = count_alike p q xs ys (omega arith) (λ j h. f (suc j) (omega arith)) in
    sum_by-cons (λ z. cond (p z) 1 0) x xs ∙ rw (f zero (omega arith), ih) (sym (sum_by-cons (λ z. cond (q z) 1 0) y ys))

-- permutations in the same relative order are one
pub same_permutations : (n : ℕ) (xs ys : List ℕ) → IsPermutationOf n xs → IsPermutationOf n ys → IsSameOrder xs ys → xs ≡ ys
same_permutations n xs ys p q h = same_lists xs ys h.as_many (λ k d l. at k d l)
  where
    below : (zs : List ℕ) → IsPermutationOf n zs → AllByRecursion (λ z. z < length zs) zs
    below zs r = subst (λ m. AllByRecursion (λ z. z < m) zs) (sym r.as_long) r.below

    letter : (zs : List ℕ) → IsPermutationOf n zs → (k : ℕ) → k < length zs → rank zs (get_or zs k 0) ≡ get_or zs k 0
    letter zs r k l = rank-letters zs r.distinct (below zs r) (get_or zs k 0) (let b : get_or zs k 0 < length zs = of_each (λ z. z < length zs) (below zs r) (in_at zs k l) in omega arith)

    test : (a b c d : ℕ) → (a < b) ↔ (c < d) → nat_lt a b ≡ nat_lt c d
    test a b c d e = same_test (nat_lt a b) (nat_lt c d) (λ t. grind (arith, nat_tests)) (λ t. grind (arith, nat_tests))

    default_free : (zs : List ℕ) (k d : ℕ) → k < length zs → get_or zs k d ≡ get_or zs k 0
    default_free [] k d l = absurd (omega arith)
    default_free (z ∷ zs) zero d l = refl
    default_free (z ∷ zs) (suc k) d l = default_free zs k d (omega arith)

    at : (k d : ℕ) → k < length xs → get_or xs k d ≡ get_or ys k d
    at k d l =
        let e = h.as_many in
        let l' : k < length ys = omega arith in
        let x = get_or xs k 0 in
        let y = get_or ys k 0 in
        let r : rank xs x ≡ rank ys y = count_alike (λ z. nat_lt z x) (λ z. nat_lt z y) xs ys e (λ j m. test (get_or xs j 0) x (get_or ys j 0) y (h.alike j k m l')) in
        default_free xs k d l ∙ sym (letter xs p k l) ∙ r ∙ letter ys q k l' ∙ sym (default_free ys k d l')
