-- Lists sorted into buckets by a number of each item.
use Rattle.std.proofs.Common.{◌≡◌, ℕ, zero, suc, ◌+◌, ◌<◌, ◌≤◌, Bool, true, false, cond, List, [], ◌∷◌, ◌++◌, refl, sym, ap, subst, ◌∙◌, ⊎_elim, arith}
use Rattle.std.specs.Prelude.{◌==◌, not, map}
use Rattle.std.specs.List.{filter, flat_map, range_with_len, count_by}
use Rattle.std.proofs.lemmas.Bool.{eqb-true}
use Rattle.std.proofs.lemmas.Bool.Decides.{nat_tests}
use Rattle.std.proofs.lemmas.List.Elements.{filter-append}
use Rattle.std.proofs.lemmas.List.{map-append}
use Rattle.lists.specs.Members.{IsIn, NoRepeats}
use Rattle.lists.specs.Members.IsIn.{here, later}
use Rattle.lists.proofs.Members.{from_IsIn-filter, from_IsIn-flat_map, IsIn-append_cases}
use Rattle.lists.proofs.Ranges.{IsIn-range_with_len, NoRepeats-range_with_len}
use Rattle.lists.proofs.Repeats.{NoRepeats-filter, NoRepeats-flat_map}
use Rattle.lists.proofs.Filters.{filter_swap, filter-map, filter_all, filter-none}
use Rattle.lists.proofs.Counts.{count-append, count-split}

-- Lists sorted into buckets by a number of each item.
-- the items of number i, for each of these numbers
abbrev pub buckets : {X : Type 0} → (X → ℕ) → List ℕ → List X → List X
buckets f is xs = flat_map (λ i. filter (λ x. f x == i) xs) is

-- a filter goes inside
pub filter-buckets : {X : Type 0} (t : X → Bool) (f : X → ℕ) (is : List ℕ) (xs : List X) → filter t (buckets f is xs) ≡ buckets f is (filter t xs)
filter-buckets t f [] xs = refl
filter-buckets {X} t f (i ∷ is) xs =
    filter-append t (filter (λ x. f x == i) xs) (buckets f is xs)
    ∙ (λ j. filter_swap t (λ (x : X). f x == i) xs j ++ filter-buckets t f is xs j)

-- buckets of images
pub buckets-map : {X Y : Type 0} (f : Y → ℕ) (g : X → Y) (is : List ℕ) (xs : List X) → buckets f is (map g xs) ≡ map g (buckets (λ x. f (g x)) is xs)
buckets-map f g [] xs = refl
buckets-map {X} {Y} f g (i ∷ is) xs =
    (λ j. filter-map (λ (y : Y). f y == i) g xs j ++ buckets-map f g is xs j)
    ∙ sym (map-append g (filter (λ x. f (g x) == i) xs) (buckets (λ x. f (g x)) is xs))

-- buckets that no item belongs to are empty
pub no_bucket : {X : Type 0} (f : X → ℕ) (is : List ℕ) (xs : List X) → ((i : ℕ) → IsIn i is → (x : X) → IsIn x xs → (f x == i) ≡ false) → buckets f is xs ≡ []
no_bucket f [] xs h = refl
no_bucket {X} f (i ∷ is) xs h = rw (filter-none (λ (x : X). f x == i) xs (h i here)) (no_bucket f is xs (λ j m. h j (later i m)))

-- items of number a take no part in other buckets
skip : {X : Type 0} (f : X → ℕ) (a i : ℕ) (xs : List X) → a < i → filter (λ x. f x == i) xs ≡ filter (λ x. f x == i) (filter (λ x. not (f x == a)) xs)
skip f a i [] l = refl
skip {X} f a i (x ∷ xs) l = go (f x == i) (f x == a) refl refl (skip f a i xs l)
  where
    clash : (n : ℕ) → (n == i) ≡ true → (n == a) ≡ true → ⊥
    clash n e g = grind (arith, nat_tests)

    go : (p q : Bool) → (f x == i) ≡ p → (f x == a) ≡ q → filter (λ y. f y == i) xs ≡ filter (λ y. f y == i) (filter (λ y. not (f y == a)) xs)
        → cond p (x ∷ filter (λ y. f y == i) xs) (filter (λ y. f y == i) xs) ≡ filter (λ y. f y == i) (cond (not q) (x ∷ filter (λ y. not (f y == a)) xs) (filter (λ y. not (f y == a)) xs))
    go true true e g ih = absurd (clash (f x) e g)
    go true false e g ih = rw e (ap (λ l. x ∷ l) ih)
    go false true e g ih = ih
    go false false e g ih = rw e ih

skip_all : {X : Type 0} (f : X → ℕ) (a : ℕ) (is : List ℕ) (xs : List X) → ((i : ℕ) → IsIn i is → a < i) → buckets f is xs ≡ buckets f is (filter (λ x. not (f x == a)) xs)
skip_all f a [] xs h = refl
skip_all f a (i ∷ is) xs h = let e = skip f a i xs (h i here) in let ih = skip_all f a is xs (λ j m. h j (later i m)) in λ j. e j ++ ih j

-- the first bucket, and those of the others
first_bucket : {X : Type 0} (f : X → ℕ) (a n : ℕ) (xs : List X) → buckets f (range_with_len a (suc n)) xs ≡ filter (λ x. f x == a) xs ++ buckets f (range_with_len (a + 1) n) (filter (λ x. not (f x == a)) xs)
first_bucket {X} f a n xs =
    ap (λ l. filter (λ (x : X). f x == a) xs ++ l) (skip_all f a (range_with_len (a + 1) n) xs (λ i m. let k = IsIn-range_with_len (a + 1) n i m in omega (arith, k.0)))

-- the number of each item is in a range
abbrev pub Within : {X : Type 0} → (X → ℕ) → ℕ → ℕ → List X → Type 0
Within {X} f a n xs = (x : X) → IsIn x xs → (a ≤ f x) × (f x < a + n)

none_within : {X : Type 0} (f : X → ℕ) (a : ℕ) (xs : List X) → Within f a 0 xs → xs ≡ []
none_within f a [] h = refl
none_within f a (x ∷ xs) h = let k = h x here in absurd (omega (arith, k.0, k.1))

others_within : {X : Type 0} (f : X → ℕ) (a n : ℕ) (xs : List X) → Within f a (suc n) xs → Within f (a + 1) n (filter (λ x. not (f x == a)) xs)
others_within {X} f a n xs h x m =
    let k = from_IsIn-filter (λ (y : X). not (f y == a)) xs m in
    let w = h x k.0 in
    go (f x) w.0 w.1 k.1
  where
    go : (v : ℕ) → a ≤ v → v < a + suc n → not (v == a) ≡ true → (a + 1 ≤ v) × (v < a + 1 + n)
    go v p q e = let other : a + 1 ≤ v = grind (arith, nat_tests) in (other, omega arith)

-- nothing is lost, and nothing stands twice
pub count-buckets : {X : Type 0} (t : X → Bool) (f : X → ℕ) (a n : ℕ) (xs : List X) → Within f a n xs → count_by t (buckets f (range_with_len a n) xs) ≡ count_by t xs
count-buckets t f a zero xs h = rw (none_within f a xs h) refl
count-buckets {X} t f a (suc n) xs h =
    ap (λ l. count_by t l) (first_bucket f a n xs)
    ∙ count-append t (filter (λ x. f x == a) xs) (buckets f (range_with_len (a + 1) n) (filter (λ x. not (f x == a)) xs))
    ∙ rw (count-buckets t f (a + 1) n (filter (λ x. not (f x == a)) xs) (others_within f a n xs h)) (count-split t (λ (x : X). f x == a) xs)

-- each item's number is no greater than those of later ones
abbrev pub Ascends : {X : Type 0} → (X → ℕ) → List X → Type 0
Ascends f [] = Unit {0}
Ascends {X} f (x ∷ xs) = ((y : X) → IsIn y xs → f x ≤ f y) × Ascends f xs

Ascends-filter : {X : Type 0} (f : X → ℕ) (t : X → Bool) (xs : List X) → Ascends f xs → Ascends f (filter t xs)
Ascends-filter f t [] h = tt
Ascends-filter {X} f t (x ∷ xs) h = go (t x) (Ascends-filter f t xs h.1)
  where
    go : (b : Bool) → Ascends f (filter t xs) → Ascends f (cond b (x ∷ filter t xs) (filter t xs))
    go true k = ((λ y m. h.0 y (from_IsIn-filter t xs m).0), k)
    go false k = k

lowest_first : {X : Type 0} (f : X → ℕ) (a : ℕ) (xs : List X) → Ascends f xs → ((x : X) → IsIn x xs → a ≤ f x) → filter (λ x. f x == a) xs ++ filter (λ x. not (f x == a)) xs ≡ xs
lowest_first f a [] s h = refl
lowest_first {X} f a (x ∷ xs) s h = go (f x == a) refl (lowest_first f a xs s.1 (λ y m. h y (later x m)))
  where
    higher : (u v : ℕ) → a ≤ u → (u == a) ≡ false → u ≤ v → (v == a) ≡ false
    higher u v p e q = grind (arith, nat_tests)

    go : (b : Bool) → (f x == a) ≡ b → filter (λ y. f y == a) xs ++ filter (λ y. not (f y == a)) xs ≡ xs → cond b (x ∷ filter (λ y. f y == a) xs) (filter (λ y. f y == a) xs) ++ cond (not b) (x ∷ filter (λ y. not (f y == a)) xs) (filter (λ y. not (f y == a)) xs) ≡ x ∷ xs
    go true e ih = ap (λ l. x ∷ l) ih
    go false e ih =
        let none : filter (λ y. f y == a) xs ≡ [] = filter-none (λ (y : X). f y == a) xs (λ y m. higher (f x) (f y) (h x here) e (s.0 y m)) in
        let all : filter (λ y. not (f y == a)) xs ≡ xs = filter_all (λ (y : X). not (f y == a)) xs (λ y m. rw (higher (f x) (f y) (h x here) e (s.0 y m)) refl) in
        rw (none, all) refl

-- what ascends is its buckets in order
pub buckets-ascending : {X : Type 0} (f : X → ℕ) (a n : ℕ) (xs : List X) → Ascends f xs → Within f a n xs → buckets f (range_with_len a n) xs ≡ xs
buckets-ascending f a zero xs s h = sym (none_within f a xs h)
buckets-ascending {X} f a (suc n) xs s h =
    first_bucket f a n xs
    ∙ ap (λ l. filter (λ (x : X). f x == a) xs ++ l) (buckets-ascending f (a + 1) n (filter (λ x. not (f x == a)) xs) (Ascends-filter f (λ x. not (f x == a)) xs s) (others_within f a n xs h))
    ∙ lowest_first f a xs s (λ x m. (h x m).0)

-- lists that ascend, and of which the second goes on from the first, ascend together
pub Ascends-append : {X : Type 0} (f : X → ℕ) (xs ys : List X) → Ascends f xs → Ascends f ys → ((x y : X) → IsIn x xs → IsIn y ys → f x ≤ f y) → Ascends f (xs ++ ys)
Ascends-append f [] ys s t h = t
Ascends-append {X} f (x ∷ xs) ys s t h =
    ((λ y m. ⊎_elim {C = f x ≤ f y} (λ i. s.0 y i) (λ i. h x y here i) (IsIn-append_cases xs ys m)), Ascends-append f xs ys s.1 t (λ z y i j. h z y (later x i) j))

-- items of one number ascend
pub Ascends-constant : {X : Type 0} (f : X → ℕ) (a : ℕ) (xs : List X) → ((x : X) → IsIn x xs → f x ≡ a) → Ascends f xs
Ascends-constant f a [] h = tt
Ascends-constant f a (x ∷ xs) h = ((λ y m. let e = h x here in let d = h y (later x m) in omega (arith, e, d)), Ascends-constant f a xs (λ y m. h y (later x m)))

-- what is in the buckets is in the list, and its number is among theirs
pub from_IsIn-buckets : {X : Type 0} (f : X → ℕ) (is : List ℕ) (xs : List X) {x : X} → IsIn x (buckets f is xs) → IsIn x xs × IsIn (f x) is
from_IsIn-buckets {X} f is xs {x} m =
    let k = from_IsIn-flat_map (λ (i : ℕ). filter (λ (y : X). f y == i) xs) is m in
    let l = from_IsIn-filter (λ (y : X). f y == k.0) xs k.2 in
    (l.0, subst (λ (i : ℕ). IsIn i is) (sym (eqb-true (f x) k.0 l.1)) k.1)

-- buckets ascend
pub Ascends-buckets : {X : Type 0} (f : X → ℕ) (a n : ℕ) (xs : List X) → Ascends f (buckets f (range_with_len a n) xs)
Ascends-buckets f a zero xs = tt
Ascends-buckets {X} f a (suc n) xs =
    Ascends-append f (filter (λ x. f x == a) xs) (buckets f (range_with_len (a + 1) n) xs)
    (Ascends-constant f a (filter (λ x. f x == a) xs) (λ x m. is_a x m)) (Ascends-buckets f (a + 1) n xs)
    (λ x y m i. let e = is_a x m in let k = from_IsIn-buckets f (range_with_len (a + 1) n) xs i in let b = IsIn-range_with_len (a + 1) n (f y) k.1 in omega (arith, e, b.0))
  where
    is_a : (x : X) → IsIn x (filter (λ y. f y == a) xs) → f x ≡ a
    is_a x m = eqb-true (f x) a (from_IsIn-filter (λ (y : X). f y == a) xs m).1

-- buckets of a list without repeats have none
pub NoRepeats-buckets : {X : Type 0} (f : X → ℕ) (a n : ℕ) {xs : List X} → NoRepeats xs → NoRepeats (buckets f (range_with_len a n) xs)
NoRepeats-buckets {X} f a n {xs} r =
    NoRepeats-flat_map (λ (i : ℕ). filter (λ (x : X). f x == i) xs) (λ i. NoRepeats-filter (λ x. f x == i) r)
    (λ i j x m l. sym (eqb-true (f x) i (from_IsIn-filter (λ (y : X). f y == i) xs m).1) ∙ eqb-true (f x) j (from_IsIn-filter (λ (y : X). f y == j) xs l).1)
    (NoRepeats-range_with_len a n)
