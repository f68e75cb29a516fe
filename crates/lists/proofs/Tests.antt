-- Tests of all items, and of some item.
use Rattle.std.proofs.Common.{◌≡◌, ◌<◌, ◌+◌, ℕ, zero, suc, Bool, true, false, List, [], ◌∷◌, length, take, refl, sym, ◌∙◌, arith}
use Rattle.std.specs.Prelude.{◌&&◌, ◌||◌, not, map, slice_index_or}
use Rattle.std.specs.List.{list_all, list_any}
use Rattle.std.proofs.lemmas.Bool.{and_parts, and_from}
use Rattle.std.proofs.lemmas.List.Folds.{list_all_more}
use Rattle.std.proofs.Math.Bool.{and-false, or-true, and_assoc}
use Rattle.lists.specs.Members.{IsIn}
use Rattle.lists.specs.Members.IsIn.{here, later}

-- two tests that imply each other are the same
pub same_test : (a b : Bool) → (a ≡ true → b ≡ true) → (b ≡ true → a ≡ true) → a ≡ b
same_test true b f g = sym (f refl)
same_test false true f g = g refl
same_test false false f g = refl

-- and may be grouped anew, as std's law from the right
pub and_regroup : (p q r : Bool) → (p && (q && r)) ≡ (p && q && r)
and_regroup p q r = sym (and_assoc p q r)

-- ---- what tests of lists say of items
-- where all pass, each does
pub each_passes : {X : Type 0} (test : X → Bool) {x : X} {xs : List X} → list_all test xs ≡ true → IsIn x xs → test x ≡ true
each_passes test {x = x} h (here {xs = xs}) = (and_parts (test x) (list_all test xs) h).0
each_passes test h (later {xs = xs} y m) = each_passes test (and_parts (test y) (list_all test xs) h).1 m

-- where each passes, all do
pub all_pass : {X : Type 0} (test : X → Bool) (xs : List X) → ((x : X) → IsIn x xs → test x ≡ true) → list_all test xs ≡ true
all_pass test [] f = refl
all_pass test (x ∷ xs) f = and_from (test x) (list_all test xs) (f x here) (all_pass test xs (λ y m. f y (later x m)))

-- where an item passes, some does
pub some_passes : {X : Type 0} (test : X → Bool) {x : X} {xs : List X} → IsIn x xs → test x ≡ true → list_any test xs ≡ true
some_passes test here e = rw e
some_passes test (later {xs = xs} y m) e = rw (some_passes test m e) (or-true (test y))

-- where some passes, here is one
pub which_passes : {X : Type 0} (test : X → Bool) (xs : List X) → list_any test xs ≡ true → (x : X) × IsIn x xs × (test x ≡ true)
which_passes test [] e = absurd cc
which_passes {X} test (y ∷ xs) e = go (test y) refl (which_passes test xs) e
  where
    go : (b : Bool) → test y ≡ b → (list_any test xs ≡ true → (x : X) × IsIn x xs × (test x ≡ true)) → (b || list_any test xs) ≡ true → (x : X) × IsIn x (y ∷ xs) × (test x ≡ true)
    go true f ih g = (y, here, f)
    go false f ih g = let k = ih g in (k.0, later y k.1, k.2)

-- where none passes, an item fails
pub none_passes : {X : Type 0} (test : X → Bool) {x : X} (xs : List X) → list_any test xs ≡ false → IsIn x xs → test x ≡ false
none_passes test {x = x} xs e m = go (test x) refl
  where
    go : (b : Bool) → test x ≡ b → test x ≡ false
    go true f = let g = some_passes test m f in absurd cc
    go false f = f

-- where each fails, none passes
pub no_pass : {X : Type 0} (test : X → Bool) (xs : List X) → ((x : X) → IsIn x xs → test x ≡ true → ⊥) → list_any test xs ≡ false
no_pass test xs f = go (list_any test xs) refl
  where
    go : (b : Bool) → list_any test xs ≡ b → list_any test xs ≡ false
    go true e = let k = which_passes test xs e in absurd (f k.0 k.1 k.2)
    go false e = e

-- where not all pass, here is one that fails
pub some_fails : {X : Type 0} (test : X → Bool) (xs : List X) → list_all test xs ≡ false → (x : X) × IsIn x xs × (test x ≡ false)
some_fails test [] e = absurd cc
some_fails {X} test (x ∷ xs) e = go (test x) refl e (λ f. some_fails test xs f)
  where
    go : (b : Bool) → test x ≡ b → (b && list_all test xs) ≡ false → (list_all test xs ≡ false → (y : X) × IsIn y xs × (test y ≡ false)) → (y : X) × IsIn y (x ∷ xs) × (test y ≡ false)
    go true f k ih = let m = ih k in (m.0, later x m.1, m.2)
    go false f k ih = (x, here, f)

-- one item fails, so not all pass
pub one_fails : {X : Type 0} (test : X → Bool) (xs : List X) (i : ℕ) (d : X) → i < length xs → test (slice_index_or xs i d) ≡ false → list_all test xs ≡ false
one_fails test [] i d h e = absurd (omega arith)
one_fails test (x ∷ xs) zero d h e = rw e refl
one_fails {X} test (x ∷ xs) (suc i) d h e = rw (one_fails test xs i d (omega arith) e) (and-false (test x))

-- so far all pass, and the next does
pub one_more_passes : {X : Type 0} (test : X → Bool) (xs : List X) (i : ℕ) (d : X) → i < length xs → list_all test (take i xs) ≡ true → test (slice_index_or xs i d) ≡ true → list_all test (take (i + 1) xs) ≡ true
one_more_passes test xs i d h so_far e = list_all_more test xs i d h ∙ and_from (list_all test (take i xs)) (test (slice_index_or xs i d)) so_far e

-- ---- the tests and not
-- all fail exactly where not some passes
pub none-not_any : {X : Type 0} (test : X → Bool) (xs : List X) → list_all (λ x. not (test x)) xs ≡ not (list_any test xs)
none-not_any test [] = refl
none-not_any test (x ∷ xs) = go (test x) (none-not_any test xs)
  where
    go : (b : Bool) → list_all (λ y. not (test y)) xs ≡ not (list_any test xs) → (not b && list_all (λ y. not (test y)) xs) ≡ not (b || list_any test xs)
    go true e = refl
    go false e = e

-- some passes exactly where not all fail
pub list_any-not_all : {X : Type 0} (test : X → Bool) (xs : List X) → list_any test xs ≡ not (list_all (λ x. not (test x)) xs)
list_any-not_all test [] = refl
list_any-not_all test (x ∷ xs) = go (test x) (list_any-not_all test xs)
  where
    go : (b : Bool) → list_any test xs ≡ not (list_all (λ y. not (test y)) xs) → (b || list_any test xs) ≡ not (not b && list_all (λ y. not (test y)) xs)
    go true e = refl
    go false e = e

-- ---- tests that agree, on the items alone or everywhere
-- tests that agree on the items agree on all
pub list_all-agree : {X : Type 0} (p q : X → Bool) (xs : List X) → ((x : X) → IsIn x xs → p x ≡ q x) → list_all p xs ≡ list_all q xs
list_all-agree p q [] f = refl
list_all-agree p q (x ∷ xs) f = rw (f x here, list_all-agree p q xs (λ y m. f y (later x m)))

-- tests that agree on the items agree on some
pub list_any-agree : {X : Type 0} (p q : X → Bool) (xs : List X) → ((x : X) → IsIn x xs → p x ≡ q x) → list_any p xs ≡ list_any q xs
list_any-agree p q [] f = refl
list_any-agree p q (x ∷ xs) f = rw (f x here, list_any-agree p q xs (λ y m. f y (later x m)))

-- a test of some image is a test of some item
pub list_any-map : {X Y : Type 0} (test : Y → Bool) (f : X → Y) (xs : List X) → list_any test (map f xs) ≡ list_any (λ x. test (f x)) xs
list_any-map test f [] = refl
list_any-map test f (x ∷ xs) = rw (list_any-map test f xs)

-- a fixed test may stand outside
pub list_any-and : {X : Type 0} (b : Bool) (test : X → Bool) (xs : List X) → list_any (λ x. b && test x) xs ≡ (b && list_any test xs)
list_any-and true test xs = refl
list_any-and false test [] = refl
list_any-and false test (x ∷ xs) = list_any-and false test xs

-- where each image passes, all images do
pub all_pass-map : {X Y : Type 0} (t : Y → Bool) (f : X → Y) (xs : List X) → ((x : X) → IsIn x xs → t (f x) ≡ true) → list_all t (map f xs) ≡ true
all_pass-map t f [] h = refl
all_pass-map t f (x ∷ xs) h = and_from (t (f x)) (list_all t (map f xs)) (h x here) (all_pass-map t f xs (λ y m. h y (later x m)))
