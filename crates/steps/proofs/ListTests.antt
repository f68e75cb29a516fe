-- Tests over lists, and what is in them.
use Rattle.std.proofs.Common.{◌≡◌, Bool, true, false, List, [], ◌∷◌, refl}
use Rattle.std.specs.Prelude.{◌&&◌, ◌||◌, not, All, map}
use Rattle.std.specs.List.{list_all, list_any, filter}
use Rattle.std.proofs.lemmas.List.Elements.{All-head, All-tail}
use Rattle.std.proofs.lemmas.Bool.{and_parts as and_true, and_from as both_true}
use Rattle.std.proofs.Math.Bool.{or-true as or_all}
use Rattle.lists.specs.Members.IsIn.{here, later}
use Rattle.lists.specs.Members.{IsIn}

pub each_passes : {X : Type 0} (test : X → Bool) {x : X} {xs : List X} → list_all test xs ≡ true → IsIn x xs → test x ≡ true
each_passes test {x = x} h (here {xs = xs}) = (and_true (test x) (list_all test xs) h).0
each_passes test h (later {xs = xs} y m) = each_passes test (and_true (test y) (list_all test xs) h).1 m

pub all_pass : {X : Type 0} (test : X → Bool) (xs : List X) → ((x : X) → IsIn x xs → test x ≡ true) → list_all test xs ≡ true
all_pass test [] f = refl
all_pass test (x ∷ xs) f = both_true (test x) (list_all test xs) (f x here) (all_pass test xs (λ y m. f y (later x m)))

pub some_passes : {X : Type 0} (test : X → Bool) {x : X} {xs : List X} → IsIn x xs → test x ≡ true → list_any test xs ≡ true
some_passes test here e = rw e
some_passes test (later {xs = xs} y m) e = rw (some_passes test m e) (or_all (test y))

pub which_passes : {X : Type 0} (test : X → Bool) (xs : List X) → list_any test xs ≡ true → (x : X) × IsIn x xs × (test x ≡ true)
which_passes test [] e = absurd cc
which_passes {X} test (y ∷ xs) e = go (test y) refl (which_passes test xs) e
  where
    go : (b : Bool) → test y ≡ b → (list_any test xs ≡ true → (x : X) × IsIn x xs × (test x ≡ true)) → (b || list_any test xs) ≡ true → (x : X) × IsIn x (y ∷ xs) × (test x ≡ true)
    go true f ih g = (y, here, f)
    go false f ih g = let k = ih g in (k.0, later y k.1, k.2)

pub none_passes : {X : Type 0} (test : X → Bool) {x : X} (xs : List X) → list_any test xs ≡ false → IsIn x xs → test x ≡ false
none_passes test {x = x} xs e m = go (test x) refl
  where
    go : (b : Bool) → test x ≡ b → test x ≡ false
    go true f = let g = some_passes test m f in absurd cc
    go false f = f

pub list_any-none_passes : {X : Type 0} (test : X → Bool) (xs : List X) → ((x : X) → IsIn x xs → test x ≡ true → list_any test [] ≡ true) → list_any test xs ≡ false
list_any-none_passes test xs f = go (list_any test xs) refl
  where
    go : (b : Bool) → list_any test xs ≡ b → list_any test xs ≡ false
    go true e = let k = which_passes test xs e in let z = f k.0 k.1 k.2 in absurd cc
    go false e = e

pub list_any-not_all : {X : Type 0} (test : X → Bool) (xs : List X) → list_any test xs ≡ not (list_all (λ x. not (test x)) xs)
list_any-not_all test [] = refl
list_any-not_all test (x ∷ xs) = go (test x) (list_any-not_all test xs)
  where
    go : (b : Bool) → list_any test xs ≡ not (list_all (λ y. not (test y)) xs) → (b || list_any test xs) ≡ not (not b && list_all (λ y. not (test y)) xs)
    go true e = refl
    go false e = e

pub none-not_any : {X : Type 0} (test : X → Bool) (xs : List X) → list_all (λ x. not (test x)) xs ≡ not (list_any test xs)
none-not_any test [] = refl
none-not_any test (x ∷ xs) = go (test x) (none-not_any test xs)
  where
    go : (b : Bool) → list_all (λ y. not (test y)) xs ≡ not (list_any test xs) → (not b && list_all (λ y. not (test y)) xs) ≡ not (b || list_any test xs)
    go true e = refl
    go false e = e

pub list_all-agree : {X : Type 0} (p q : X → Bool) (xs : List X) → ((x : X) → IsIn x xs → p x ≡ q x) → list_all p xs ≡ list_all q xs
list_all-agree p q [] f = refl
list_all-agree p q (x ∷ xs) f = rw (f x here, list_all-agree p q xs (λ y m. f y (later x m)))

pub list_any-agree : {X : Type 0} (p q : X → Bool) (xs : List X) → ((x : X) → IsIn x xs → p x ≡ q x) → list_any p xs ≡ list_any q xs
list_any-agree p q [] f = refl
list_any-agree p q (x ∷ xs) f = rw (f x here, list_any-agree p q xs (λ y m. f y (later x m)))

pub list_any-map : {X Y : Type 0} (test : Y → Bool) (f : X → Y) (xs : List X) → list_any test (map f xs) ≡ list_any (λ x. test (f x)) xs
list_any-map test f [] = refl
list_any-map test f (x ∷ xs) = rw (list_any-map test f xs)

pub at_each : {X : Type 0} (P : X → Type 0) {x : X} {xs : List X} → All P xs → IsIn x xs → P x
at_each P {x = x} h (here {xs = xs}) = All-head P x xs h
at_each P h (later {xs = xs} y m) = at_each P (All-tail P y xs h) m

pub filter-agree : {X : Type 0} (p q : X → Bool) (xs : List X) → ((x : X) → IsIn x xs → p x ≡ q x) → filter p xs ≡ filter q xs
filter-agree p q [] f = refl
filter-agree p q (x ∷ xs) f = rw (f x here, filter-agree p q xs (λ y m. f y (later x m)))
