-- Sums over lists, and how many items pass.
use Rattle.std.proofs.Common.{◌≡◌, ℕ, ◌+◌, ◌<◌, ◌≤◌, Bool, true, false, cond, List, [], ◌∷◌, ◌++◌, length, refl, sym, ap, ◌∙◌, arith}
use Rattle.std.specs.Prelude.{map, not, sum_by, count_by}
use Rattle.std.specs.List.{filter, range_with_len}
use Rattle.std.proofs.lemmas.List.Sums.{sum_by-cons, sum_by-append, sum_by_push}
use Rattle.lists.specs.Members.{IsIn}
use Rattle.lists.specs.Members.IsIn.{here, later}
use Rattle.lists.proofs.Ranges.{range_next}

-- functions that agree on the items have the same sum
pub sum_by_agrees : {X : Type 0} (f g : X → ℕ) (xs : List X) → ((x : X) → IsIn x xs → f x ≡ g x) → sum_by f xs ≡ sum_by g xs
sum_by_agrees f g [] h = refl
sum_by_agrees f g (x ∷ xs) h = sum_by-cons f x xs ∙ rw (h x here, sum_by_agrees f g xs (λ y i. h y (later x i))) (sym (sum_by-cons g x xs))

-- a sum over images is a sum over the items
pub sum_by-map : {X Y : Type 0} (f : X → Y) (size : Y → ℕ) (xs : List X) → sum_by size (map f xs) ≡ sum_by (λ x. size (f x)) xs
sum_by-map f size [] = refl
sum_by-map f size (x ∷ xs) = sum_by-cons size (f x) (map f xs) ∙ ap (λ n. size (f x) + n) (sum_by-map f size xs) ∙ sym (sum_by-cons (λ z. size (f z)) x xs)

-- what one item adds is no more than the sum
pub in_sum : {X : Type 0} (f : X → ℕ) {x : X} {xs : List X} → IsIn x xs → f x ≤ sum_by f xs
in_sum f {x = x} (here {xs = xs}) = omega (arith, sum_by-cons f x xs)
in_sum f (later {xs = xs} y m) = omega (arith, in_sum f m, sum_by-cons f y xs)

-- what is left by a filter has no greater sum
pub filter_sum : {X : Type 0} (p : X → Bool) (f : X → ℕ) (xs : List X) → sum_by f (filter p xs) ≤ sum_by f xs
filter_sum p f [] = omega arith
filter_sum p f (x ∷ xs) = go (p x) (filter_sum p f xs)
  where
    go : (b : Bool) → sum_by f (filter p xs) ≤ sum_by f xs → sum_by f (cond b (x ∷ filter p xs) (filter p xs)) ≤ sum_by f (x ∷ xs)
    go true ih = omega (arith, ih, sum_by-cons f x xs, sum_by-cons f x (filter p xs))
    go false ih = omega (arith, ih, sum_by-cons f x xs)

-- what a test counts
abbrev pub one_if : Bool → ℕ
one_if b = cond b 1 0

-- one item more
pub count-cons : {X : Type 0} (p : X → Bool) (x : X) (xs : List X) → count_by p (x ∷ xs) ≡ one_if (p x) + count_by p xs
count-cons p x xs = sum_by-cons (λ y. cond (p y) 1 0) x xs

-- a test that implies another counts no more
pub one_if_le : (a b : Bool) → (a ≡ true → b ≡ true) → one_if a ≤ one_if b
one_if_le false b f = omega arith
one_if_le true b f = rw (f refl) (omega arith)

-- where one test implies another on the items, it counts no more
pub count_le : {X : Type 0} (p q : X → Bool) (xs : List X) → ((x : X) → IsIn x xs → p x ≡ true → q x ≡ true) → count_by p xs ≤ count_by q xs
count_le p q [] f = omega arith
count_le p q (x ∷ xs) f =
    let ih = count_le p q xs (λ y m. f y (later x m)) in
    let s = one_if_le (p x) (q x) (f x here) in
    rw (count-cons p x xs, count-cons q x xs) (omega arith)

-- and it counts less where an item passes the other alone
pub count_lt : {X : Type 0} (p q : X → Bool) {z : X} {xs : List X} → ((x : X) → IsIn x xs → p x ≡ true → q x ≡ true) → IsIn z xs → p z ≡ false → q z ≡ true → count_by p xs < count_by q xs
count_lt p q {z = z} f (here {xs = xs}) e g =
    let ih = count_le p q xs (λ y m. f y (later z m)) in
    rw (count-cons p z xs, count-cons q z xs, e, g) (omega arith)
count_lt p q f (later {xs = xs} y m) e g =
    let ih = count_lt p q (λ x n. f x (later y n)) m e g in
    let s = one_if_le (p y) (q y) (f y here) in
    rw (count-cons p y xs, count-cons q y xs) (omega arith)

-- both lists together
pub count-append : {X : Type 0} (t : X → Bool) (xs ys : List X) → count_by t (xs ++ ys) ≡ count_by t xs + count_by t ys
count-append t xs ys = sum_by-append (λ z. cond (t z) 1 0) xs ys

-- tests that agree on the items count the same
pub count_alike : {X : Type 0} (s t : X → Bool) (xs : List X) → ((x : X) → IsIn x xs → s x ≡ t x) → count_by s xs ≡ count_by t xs
count_alike s t [] h = refl
count_alike s t (x ∷ xs) h = count-cons s x xs ∙ rw (h x here, count_alike s t xs (λ y m. h y (later x m))) (sym (count-cons t x xs))

-- a count of images is a count of the items
pub count-map : {X Y : Type 0} (t : Y → Bool) (f : X → Y) (xs : List X) → count_by t (map f xs) ≡ count_by (λ x. t (f x)) xs
count-map t f [] = refl
count-map t f (x ∷ xs) = count-cons t (f x) (map f xs) ∙ rw (count-map t f xs) (sym (count-cons (λ z. t (f z)) x xs))

-- those that pass another test, and those that do not
pub count-split : {X : Type 0} (t s : X → Bool) (xs : List X) → count_by t (filter s xs) + count_by t (filter (λ x. not (s x)) xs) ≡ count_by t xs
count-split t s [] = refl
count-split {X} t s (x ∷ xs) = go (s x) (count-split t s xs)
  where
    go : (b : Bool) → count_by t (filter s xs) + count_by t (filter (λ y. not (s y)) xs) ≡ count_by t xs
        → count_by t (cond b (x ∷ filter s xs) (filter s xs)) + count_by t (cond (not b) (x ∷ filter (λ y. not (s y)) xs) (filter (λ y. not (s y)) xs)) ≡ count_by t (x ∷ xs)
    go true ih = rw (count-cons t x (filter s xs), count-cons t x xs) (omega arith)
    go false ih = rw (count-cons t x (filter (λ y. not (s y)) xs), count-cons t x xs) (omega arith)

-- a sum over numbers: the next number adds its own
pub sum_next : (f : ℕ → ℕ) (n : ℕ) → sum_by f (range_with_len 0 (n + 1)) ≡ sum_by f (range_with_len 0 n) + f n
sum_next f n = rw (range_next n) (sum_by_push f (range_with_len 0 n) n)

-- where all pass, the count is the length
pub count_all : {X : Type 0} (xs : List X) → count_by (λ x. true) xs ≡ length xs
count_all [] = refl
count_all {X} (x ∷ xs) = count-cons (λ (y : X). true) x xs ∙ rw (count_all xs) (omega arith)
