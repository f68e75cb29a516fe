-- What is in a list.
use Rattle.std.proofs.Common.{◌≡◌, zero, suc, Bool, true, false, cond, List, [], ◌∷◌, ◌++◌, length, refl, inl, inr, ⊎_elim, arith}
use Rattle.std.specs.Prelude.{◌⊎◌, All, Contains, map}
use Rattle.std.specs.List.{filter, flat_map, AllByRecursion}
use Rattle.std.proofs.lemmas.List.Elements.{All-head, All-tail, All-from_recursion}
use Rattle.lists.specs.Members.{IsIn}
use Rattle.lists.specs.Members.IsIn.{here, later}

-- ---- lists of no, one, or some items
-- nothing is in the empty list
pub none_in : {X : Type 0} {x : X} → IsIn x [] → ⊥
none_in m = elim m [ ]

-- what is in a list of one item is that item
pub only_in : {X : Type 0} {x y : X} → IsIn x (y ∷ []) → x ≡ y
only_in here = refl
only_in (later _ m) = elim m [ ]

-- what is in a list is its first item, or in the rest
pub first_or_later : {X : Type 0} {x y : X} {ys : List X} → IsIn x (y ∷ ys) → (x ≡ y) ⊎ IsIn x ys
first_or_later here = inl refl
first_or_later (later _ h) = inr h

-- a list that nothing is in has no items
pub empty_list : {X : Type 0} (xs : List X) → ((x : X) → IsIn x xs → ⊥) → length xs ≡ 0
empty_list [] f = refl
empty_list (x ∷ xs) f = absurd (f x here)

-- ---- the same by std's words
-- what std calls contained is in the list
pub is_in : {X : Type 0} (xs : List X) (x : X) → Contains xs x → IsIn x xs
is_in [] x (k, l, e) = absurd (omega arith)
is_in (y ∷ xs) x (zero, l, e) = rw e here
is_in (y ∷ xs) x (suc k, l, e) = later y (is_in xs x (k, omega arith, e))

-- what is in the list is contained, in std's word
pub contained : {X : Type 0} {x : X} {xs : List X} → IsIn x xs → Contains xs x
contained here = (0, omega arith, refl)
contained (later y h) = let k = contained h in (suc k.0, omega (arith, k.1), k.2)

-- what holds of all items holds of one that is in the list
pub of_all : {X : Type 0} (P : X → Type 0) {x : X} {xs : List X} → All P xs → IsIn x xs → P x
of_all P {x = x} h (here {xs = xs}) = All-head P x xs h
of_all P h (later {xs = xs} y m) = of_all P (All-tail P y xs h) m

-- what holds of each item, by recursion, holds of one that is in the list
pub of_each : {X : Type 0} (P : X → Type 0) {x : X} {xs : List X} → AllByRecursion P xs → IsIn x xs → P x
of_each P h here = h.0
of_each P h (later y m) = of_each P h.1 m

-- what holds of whatever is in the list holds of each item, by recursion
pub each_in : {X : Type 0} (P : X → Type 0) (xs : List X) → ((x : X) → IsIn x xs → P x) → AllByRecursion P xs
each_in P [] f = tt
each_in P (x ∷ xs) f = (f x here, each_in P xs (λ y m. f y (later x m)))

-- what holds of whatever is in the list holds of all items
pub all_in : {X : Type 0} (P : X → Type 0) (xs : List X) → ((x : X) → IsIn x xs → P x) → All P xs
all_in P xs f = All-from_recursion P xs (each_in P xs f)

-- ---- lists put together
-- what is in the first list is in both together
pub IsIn-append_left : {X : Type 0} {x : X} {xs : List X} (ys : List X) → IsIn x xs → IsIn x (xs ++ ys)
IsIn-append_left ys here = here
IsIn-append_left ys (later y h) = later y (IsIn-append_left ys h)

-- what is in the second list is in both together
pub IsIn-append_right : {X : Type 0} {x : X} (xs : List X) {ys : List X} → IsIn x ys → IsIn x (xs ++ ys)
IsIn-append_right [] h = h
IsIn-append_right (y ∷ xs) h = later y (IsIn-append_right xs h)

-- what is in both together is in one of them
pub IsIn-append_cases : {X : Type 0} {x : X} (xs ys : List X) → IsIn x (xs ++ ys) → IsIn x xs ⊎ IsIn x ys
IsIn-append_cases [] ys h = inr h
IsIn-append_cases (x ∷ xs) ys here = inl here
IsIn-append_cases (y ∷ xs) ys (later _ h) = ⊎_elim (λ a. inl (later y a)) (λ b. inr b) (IsIn-append_cases xs ys h)

-- ---- lists mapped and filtered
-- the image of an item is in the mapped list
pub IsIn-map : {X Y : Type 0} (f : X → Y) {x : X} {xs : List X} → IsIn x xs → IsIn (f x) (map f xs)
IsIn-map f here = here
IsIn-map f (later y h) = later (f y) (IsIn-map f h)

-- what is in a mapped list is the image of an item
pub from_IsIn-map : {X Y : Type 0} (f : X → Y) (xs : List X) {y : Y} → IsIn y (map f xs) → (x : X) × IsIn x xs × (y ≡ f x)
from_IsIn-map f [] h = elim h [ ]
from_IsIn-map f (x ∷ xs) here = (x, here, refl)
from_IsIn-map f (x ∷ xs) (later _ h) = let k = from_IsIn-map f xs h in (k.0, later x k.1, k.2)

-- an item that passes is in the filtered list
pub IsIn-filter : {X : Type 0} (p : X → Bool) {x : X} {xs : List X} → IsIn x xs → p x ≡ true → IsIn x (filter p xs)
IsIn-filter p here e = rw e here
IsIn-filter {X} p {x = x} (later {xs = xs} y h) e = go (p y) (IsIn-filter p h e)
  where
    go : (b : Bool) → IsIn x (filter p xs) → IsIn x (cond b (y ∷ filter p xs) (filter p xs))
    go true k = later y k
    go false k = k

-- what is in a filtered list is an item that passes
pub from_IsIn-filter : {X : Type 0} (p : X → Bool) {x : X} (xs : List X) → IsIn x (filter p xs) → IsIn x xs × (p x ≡ true)
from_IsIn-filter p [] h = elim h [ ]
from_IsIn-filter {X} p {x} (y ∷ xs) h = go (p y) refl (from_IsIn-filter p xs) h
  where
    at : {z : X} → p y ≡ true → (IsIn z (filter p xs) → IsIn z xs × (p z ≡ true)) → IsIn z (y ∷ filter p xs) → IsIn z (y ∷ xs) × (p z ≡ true)
    at e ih here = (here, e)
    at e ih (later y k) = (later y (ih k).0, (ih k).1)

    go : (b : Bool) → p y ≡ b → (IsIn x (filter p xs) → IsIn x xs × (p x ≡ true)) → IsIn x (cond b (y ∷ filter p xs) (filter p xs)) → IsIn x (y ∷ xs) × (p x ≡ true)
    go true e ih k = at e ih k
    go false e ih k = (later y (ih k).0, (ih k).1)

-- what is in the lists of a list's items together is in the list of one
pub from_IsIn-flat_map : {X Y : Type 0} (f : X → List Y) (xs : List X) {y : Y} → IsIn y (flat_map f xs) → (x : X) × IsIn x xs × IsIn y (f x)
from_IsIn-flat_map f [] h = elim h [ ]
from_IsIn-flat_map {X} {Y} f (x ∷ xs) {y} h =
    ⊎_elim {C = (z : X) × IsIn z (x ∷ xs) × IsIn y (f z)} (λ m. (x, here, m)) (λ m. let k = from_IsIn-flat_map f xs m in (k.0, later x k.1, k.2)) (IsIn-append_cases (f x) (flat_map f xs) h)

-- what is in the list of an item is in the lists of all items together
pub IsIn-flat_map : {X Y : Type 0} (f : X → List Y) {x : X} {xs : List X} {y : Y} → IsIn x xs → IsIn y (f x) → IsIn y (flat_map f xs)
IsIn-flat_map f (here {xs = xs}) m = IsIn-append_left (flat_map f xs) m
IsIn-flat_map f (later z h) m = IsIn-append_right (f z) (IsIn-flat_map f h m)

-- what holds of the image of each item holds of each image, by recursion
pub each_image : {X Y : Type 0} (P : Y → Type 0) (f : X → Y) (xs : List X) → ((x : X) → IsIn x xs → P (f x)) → AllByRecursion P (map f xs)
each_image P f [] h = tt
each_image P f (x ∷ xs) h = (h x here, each_image P f xs (λ y m. h y (later x m)))
