-- Filters.
use Rattle.std.proofs.Common.{◌≡◌, ◌+◌, ◌≤◌, Bool, true, false, cond, List, [], ◌∷◌, length, refl, ap, arith}
use Rattle.std.specs.Prelude.{◌&&◌, not, map}
use Rattle.std.specs.List.{filter, flat_map, list_all}
use Rattle.std.proofs.lemmas.List.Elements.{filter-append}
use Rattle.lists.specs.Members.{IsIn}
use Rattle.lists.specs.Members.IsIn.{here, later}
use Rattle.lists.proofs.Tests.{each_passes}

-- two filters are one by both tests
pub filter-filter : {X : Type 0} (p q : X → Bool) (xs : List X) → filter p (filter q xs) ≡ filter (λ x. q x && p x) xs
filter-filter p q [] = refl
filter-filter {X} p q (x ∷ xs) = go (q x) (filter-filter p q xs)
  where
    go : (b : Bool) → filter p (filter q xs) ≡ filter (λ y. q y && p y) xs → filter p (cond b (x ∷ filter q xs) (filter q xs)) ≡ cond (b && p x) (x ∷ filter (λ y. q y && p y) xs) (filter (λ y. q y && p y) xs)
    go true e = ap (λ l. cond (p x) (x ∷ l) l) e
    go false e = e

-- tests that agree on the items leave the same
pub filter-agree : {X : Type 0} (p q : X → Bool) (xs : List X) → ((x : X) → IsIn x xs → p x ≡ q x) → filter p xs ≡ filter q xs
filter-agree p q [] f = refl
filter-agree p q (x ∷ xs) f = rw (f x here, filter-agree p q xs (λ y m. f y (later x m)))

-- a filter that each item passes leaves all
pub filter_all : {X : Type 0} (test : X → Bool) (xs : List X) → ((x : X) → IsIn x xs → test x ≡ true) → filter test xs ≡ xs
filter_all test [] h = refl
filter_all test (x ∷ xs) h = rw (h x here) (ap (λ l. x ∷ l) (filter_all test xs (λ y m. h y (later x m))))

-- a filter that all pass leaves all
pub filter-all : {X : Type 0} (test : X → Bool) (xs : List X) → list_all test xs ≡ true → filter test xs ≡ xs
filter-all test xs e = filter_all test xs (λ x m. each_passes test e m)

-- a filter that none passes leaves nothing
pub filter-none : {X : Type 0} (test : X → Bool) (xs : List X) → ((x : X) → IsIn x xs → test x ≡ false) → filter test xs ≡ []
filter-none test [] f = refl
filter-none test (x ∷ xs) f = rw (f x here) (filter-none test xs (λ y m. f y (later x m)))

-- a filter of lists together is the filtered lists together
pub filter-flat_map : {X Y : Type 0} (test : Y → Bool) (f : X → List Y) (xs : List X) → filter test (flat_map f xs) ≡ flat_map (λ x. filter test (f x)) xs
filter-flat_map test f [] = refl
filter-flat_map test f (x ∷ xs) = rw (filter-append test (f x) (flat_map f xs), filter-flat_map test f xs)

-- what passes a test is as many as what passes another one too, and what doesn't
pub filter_split : {X : Type 0} (p q : X → Bool) (xs : List X) → length (filter p xs) ≡ length (filter (λ x. p x && not (q x)) xs) + length (filter (λ x. p x && q x) xs)
filter_split p q [] = refl
filter_split {X} p q (x ∷ xs) = go (p x) (q x) (filter_split p q xs)
  where
    go : (a b : Bool) → length (filter p xs) ≡ length (filter (λ y. p y && not (q y)) xs) + length (filter (λ y. p y && q y) xs)
        → length (cond a (x ∷ filter p xs) (filter p xs)) ≡ length (cond (a && not b) (x ∷ filter (λ y. p y && not (q y)) xs) (filter (λ y. p y && not (q y)) xs)) + length (cond (a && b) (x ∷ filter (λ y. p y && q y) xs) (filter (λ y. p y && q y) xs))
    go true true ih = omega arith
    go true false ih = omega arith
    go false b ih = ih

-- filters may change places
pub filter_swap : {X : Type 0} (s t : X → Bool) (xs : List X) → filter s (filter t xs) ≡ filter t (filter s xs)
filter_swap s t [] = refl
filter_swap {X} s t (x ∷ xs) = go (s x) (t x) refl refl (filter_swap s t xs)
  where
    go : (a b : Bool) → s x ≡ a → t x ≡ b → filter s (filter t xs) ≡ filter t (filter s xs) → filter s (cond b (x ∷ filter t xs) (filter t xs)) ≡ filter t (cond a (x ∷ filter s xs) (filter s xs))
    go true true e f ih = rw (e, f) (ap (λ l. x ∷ l) ih)
    go true false e f ih = rw f ih
    go false true e f ih = rw e ih
    go false false e f ih = ih

-- a filter of images is a filter before
pub filter-map : {X Y : Type 0} (t : Y → Bool) (f : X → Y) (xs : List X) → filter t (map f xs) ≡ map f (filter (λ x. t (f x)) xs)
filter-map t f [] = refl
filter-map {X} {Y} t f (x ∷ xs) = go (t (f x)) (filter-map t f xs)
  where
    go : (b : Bool) → filter t (map f xs) ≡ map f (filter (λ y. t (f y)) xs) → cond b (f x ∷ filter t (map f xs)) (filter t (map f xs)) ≡ map f (cond b (x ∷ filter (λ y. t (f y)) xs) (filter (λ y. t (f y)) xs))
    go true ih = ap (λ l. f x ∷ l) ih
    go false ih = ih
