-- Places in a list, first places, and lists side by side.
use Rattle.std.proofs.Common.{◌≡◌, ◌+◌, ◌<◌, ◌≤◌, ℕ, zero, suc, Bool, true, false, cond, List, [], ◌∷◌, ◌++◌, length, take, drop, get_or, refl, sym, ap, subst, ⊎_elim, arith}
use Rattle.std.specs.Prelude.{◌||◌, not, map, slice_get, slice_index, slice_index_or, Some, None, find}
use Rattle.std.specs.List.{list_any, position_or_len, AllZip}
use Rattle.std.proofs.lemmas.Bool.{cases_lt}
use Rattle.std.proofs.Math.Seq.{take-append_seam}
use Rattle.lists.specs.Members.{IsIn}
use Rattle.lists.specs.Members.IsIn.{here, later}

-- what stands at a place is in the list
pub IsIn-slice_get : {X : Type 0} (xs : List X) (i : ℕ) (x : X) → slice_get xs i ≡ Some x → IsIn x xs
IsIn-slice_get [] i x h = absurd cc
IsIn-slice_get {X} (y ∷ xs) zero x h = let e : y ≡ x = cc in subst (λ (z : X). IsIn z (y ∷ xs)) e here
IsIn-slice_get (y ∷ xs) (suc i) x h = later y (IsIn-slice_get xs i x h)

-- something stands at each place within the length
pub at_place : {X : Type 0} (xs : List X) (i : ℕ) → i < length xs → (x : X) × (slice_get xs i ≡ Some x)
at_place [] i h = absurd (omega (arith, h))
at_place (x ∷ xs) zero h = (x, refl)
at_place (x ∷ xs) (suc i) h = at_place xs i (omega (arith, h))

-- a number that stands at a place is read there, and the place is within the length
pub get_index : (ks : List ℕ) (slot k : ℕ) → slice_get ks slot ≡ Some k → (slice_index ks slot ≡ k) × (slot < length ks)
get_index [] slot k h = absurd cc
get_index (j ∷ ks) zero k h = ((let e : j ≡ k = cc in e), omega arith)
get_index (j ∷ ks) (suc slot) k h = let p = get_index ks slot k h in (p.0, omega (arith, p.1))

-- what was read at a place stands there
pub some_at : {X : Type 0} (xs : List X) (i : ℕ) (x : X) → i < length xs → x ≡ get_or xs i x → slice_get xs i ≡ Some x
some_at [] i x h e = absurd (omega (arith, h))
some_at (y ∷ xs) zero x h e = ap Some (sym e)
some_at (y ∷ xs) (suc i) x h e = some_at xs i x (omega (arith, h)) e

-- what is found passes
pub found_passes : {X : Type 0} (p : X → Bool) (xs : List X) (x : X) → find p xs ≡ Some x → p x ≡ true
found_passes p [] x e = absurd cc
found_passes {X} p (y ∷ xs) x e = go (p y) refl (found_passes p xs x) e
  where
    go : (b : Bool) → p y ≡ b → (find p xs ≡ Some x → p x ≡ true) → cond b (Some y) (find p xs) ≡ Some x → p x ≡ true
    go true f ih g = let same : y ≡ x = cc in rw (← same) f
    go false f ih g = ih g

-- where nothing is found, each item fails
pub none_found : {X : Type 0} (p : X → Bool) {x : X} {xs : List X} → find p xs ≡ None → IsIn x xs → p x ≡ false
none_found p {x = x} e (here {xs = xs}) = go (p x) e
  where
    go : (b : Bool) → cond b (Some x) (find p xs) ≡ None → b ≡ false
    go true f = absurd cc
    go false f = refl
none_found p {x = x} e (later {xs = xs} y m) = go (p y) (λ f. none_found p f m) e
  where
    go : (b : Bool) → (find p xs ≡ None → p x ≡ false) → cond b (Some y) (find p xs) ≡ None → p x ≡ false
    go true ih f = absurd cc
    go false ih f = ih f

-- what is found is in the list
pub found_is_in : {X : Type 0} (p : X → Bool) (xs : List X) (x : X) → find p xs ≡ Some x → IsIn x xs
found_is_in p [] x e = absurd cc
found_is_in {X} p (y ∷ xs) x e = go (p y) (found_is_in p xs x) e
  where
    go : (b : Bool) → (find p xs ≡ Some x → IsIn x xs) → cond b (Some y) (find p xs) ≡ Some x → IsIn x (y ∷ xs)
    go true ih g = let same : x ≡ y = cc in rw same here
    go false ih g = later y (ih g)

-- where each item fails, nothing is found
pub none_to_find : {X : Type 0} (p : X → Bool) (xs : List X) → ((x : X) → IsIn x xs → p x ≡ false) → find p xs ≡ None
none_to_find p [] k = refl
none_to_find p (x ∷ xs) k = rw (k x here) (none_to_find p xs (λ y m. k y (later x m)))

-- where a test never passes, nothing is found
pub nothing_to_find : {X : Type 0} (p : X → Bool) (xs : List X) → ((x : X) → p x ≡ false) → find p xs ≡ None
nothing_to_find p xs k = none_to_find p xs (λ x m. k x)

-- what a test finds stands at its first place
pub found_at : {C : Type 0} (same : C → C → Bool) (exact : (a b : C) → same a b ≡ true → a ≡ b) (c : C) (xs : List C) → list_any (same c) xs ≡ true → slice_get xs (position_or_len (same c) xs) ≡ Some c
found_at same exact c [] h = absurd cc
found_at {C} same exact c (x ∷ xs) h = go (same c x) refl (found_at same exact c xs) h
  where
    go : (b : Bool) → same c x ≡ b → (list_any (same c) xs ≡ true → slice_get xs (position_or_len (same c) xs) ≡ Some c) → (b || list_any (same c) xs) ≡ true → slice_get (x ∷ xs) (cond (not b) (1 + position_or_len (same c) xs) 0) ≡ Some c
    go true e f h = ap Some (sym (exact c x e))
    go false e f h = let s : 1 + position_or_len (same c) xs ≡ suc (position_or_len (same c) xs) = omega arith in rw s (f h)

-- what is in the list stands at some place
pub place_of : {X : Type 0} (xs : List X) (x : X) → IsIn x xs → (i : ℕ) × (slice_get xs i ≡ Some x)
place_of [] x h = elim h [ ]
place_of (_ ∷ xs) x (here) = (0, refl)
place_of (y ∷ xs) x (later _ h) = let p = place_of xs x h in (suc p.0, p.1)

-- nothing stands past the end
pub short_if_none : {C : Type 0} (xs : List C) (i : ℕ) → slice_get xs i ≡ None → length xs ≤ i
short_if_none xs i e = ⊎_elim {C = length xs ≤ i} (λ l. absurd (let a = at_place xs i l in let f = a.1 in cc)) (λ p. p) (cases_lt i (length xs))

-- what stands in the first list stands in both together
pub get_left : {X : Type 0} (xs ys : List X) (i : ℕ) → i < length xs → slice_get (xs ++ ys) i ≡ slice_get xs i
get_left [] ys i h = absurd (omega (arith, h))
get_left (x ∷ xs) ys zero h = refl
get_left (x ∷ xs) ys (suc i) h = get_left xs ys i (omega (arith, h))

-- and is read there
pub index_left : (xs ys : List ℕ) (i : ℕ) → i < length xs → slice_index (xs ++ ys) i ≡ slice_index xs i
index_left [] ys i h = absurd (omega (arith, h))
index_left (x ∷ xs) ys zero h = refl
index_left (x ∷ xs) ys (suc i) h = index_left xs ys i (omega (arith, h))

-- a number put at the end is read there
pub index_end : (xs : List ℕ) (n : ℕ) → slice_index (xs ++ n ∷ []) (length xs) ≡ n
index_end [] n = refl
index_end (x ∷ xs) n = index_end xs n

-- a number that stands at a place is read there
pub index_is : (xs : List ℕ) (i x : ℕ) → slice_get xs i ≡ Some x → slice_index xs i ≡ x
index_is [] i x h = absurd cc
index_is (y ∷ xs) zero x h = let e : y ≡ x = cc in e
index_is (y ∷ xs) (suc i) x h = index_is xs i x h

-- one item more
pub take_next : {X : Type 0} (xs : List X) (k : ℕ) (x : X) → slice_get xs k ≡ Some x → take (suc k) xs ≡ take k xs ++ x ∷ []
take_next [] k x h = absurd cc
take_next (y ∷ xs) zero x h = let e : y ≡ x = cc in ap (λ z. z ∷ []) e
take_next (y ∷ xs) (suc k) x h = ap (λ zs. y ∷ zs) (take_next xs k x h)

-- what stands at a place of a mapped list is the image of what stands there
pub get-map : {X Y : Type 0} (f : X → Y) (xs : List X) (i : ℕ) (x : X) → slice_get xs i ≡ Some x → slice_get (map f xs) i ≡ Some (f x)
get-map f [] i x h = absurd cc
get-map f (y ∷ xs) zero x h = let e : y ≡ x = cc in ap (λ z. Some (f z)) e
get-map f (y ∷ xs) (suc i) x h = get-map f xs i x h

-- the image of what stands there is what stands at the place
pub from_get-map : {X Y : Type 0} (f : X → Y) (xs : List X) (i : ℕ) (y : Y) → slice_get (map f xs) i ≡ Some y → (x : X) × (slice_get xs i ≡ Some x) × (y ≡ f x)
from_get-map f [] i y h = absurd cc
from_get-map f (x ∷ xs) zero y h = (x, refl, let e : f x ≡ y = cc in sym e)
from_get-map f (x ∷ xs) (suc i) y h = from_get-map f xs i y h

-- beside each item stands one, side by side
pub zip_at : {A B : Type 0} (P : A → B → Type 0) (xs : List A) (ys : List B) (i : ℕ) (x : A) → AllZip P xs ys → slice_get xs i ≡ Some x → (y : B) × (slice_get ys i ≡ Some y) × P x y
zip_at P [] ys i x z h = absurd cc
zip_at P (a ∷ xs) [] i x z h = absurd z
zip_at {A} P (a ∷ xs) (b ∷ ys) zero x z h = let e : a ≡ x = cc in (b, refl, subst (λ (w : A). P w b) e z.0)
zip_at P (a ∷ xs) (b ∷ ys) (suc i) x z h = zip_at P xs ys i x z.1 h

-- and the other way round
pub zip_back : {A B : Type 0} (P : A → B → Type 0) (xs : List A) (ys : List B) (i : ℕ) (y : B) → AllZip P xs ys → slice_get ys i ≡ Some y → (x : A) × (slice_get xs i ≡ Some x) × P x y
zip_back P xs [] i y z h = absurd cc
zip_back P [] (b ∷ ys) i y z h = absurd z
zip_back {A} {B} P (a ∷ xs) (b ∷ ys) zero y z h = let e : b ≡ y = cc in (a, refl, subst (λ (w : B). P a w) e z.0)
zip_back P (a ∷ xs) (b ∷ ys) (suc i) y z h = zip_back P xs ys i y z.1 h

-- as many items as there are, are all
pub take_whole : {X : Type 0} (xs : List X) → take (length xs) xs ≡ xs
take_whole [] = refl
take_whole (x ∷ xs) = ap (λ ys. x ∷ ys) (take_whole xs)

-- x stands at place k
pub data IsAt {X : Type 0} (x : X) : ℕ → List X → Type 0 where
  at_first : {xs : List X} → IsAt x zero (x ∷ xs)
  at_next : {k : ℕ} {xs : List X} (y : X) → IsAt x k xs → IsAt x (suc k) (y ∷ xs)

-- what stands at a place is in the list
pub at_in : {X : Type 0} {x : X} {k : ℕ} {xs : List X} → IsAt x k xs → IsIn x xs
at_in at_first = here
at_in (at_next y a) = later y (at_in a)

-- and is got there
pub at_get : {X : Type 0} {x : X} {k : ℕ} {xs : List X} → IsAt x k xs → slice_get xs k ≡ Some x
at_get at_first = refl
at_get (at_next y a) = at_get a

-- the image is read at the same place of the mapped list
pub at_map : {X Y : Type 0} (f : X → Y) {x : X} {k : ℕ} {xs : List X} (d : Y) → IsAt x k xs → slice_index_or (map f xs) k d ≡ f x
at_map f d at_first = refl
at_map f d (at_next y a) = at_map f d a

-- the place is within the length
pub at_below : {X : Type 0} {x : X} {k : ℕ} {xs : List X} → IsAt x k xs → k < length xs
at_below at_first = omega arith
at_below (at_next y a) = let b = at_below a in omega arith

-- something stands at each place within the length
pub is_at : {X : Type 0} (xs : List X) (k : ℕ) → k < length xs → (x : X) × IsAt x k xs
is_at [] k h = absurd (omega arith)
is_at (x ∷ xs) zero h = (x, at_first)
is_at (x ∷ xs) (suc k) h = let a = is_at xs k (omega arith) in (a.0, at_next x a.1)

-- the first that passes a test
pub at_position : {X : Type 0} (test : X → Bool) (xs : List X) → list_any test xs ≡ true → (x : X) × (k : ℕ) × IsAt x k xs × (position_or_len test xs ≡ k) × (test x ≡ true)
at_position test [] e = absurd cc
at_position {X} test (y ∷ xs) e = go (test y) refl e (λ f. at_position test xs f)
  where
    go : (b : Bool) → test y ≡ b → (b || list_any test xs) ≡ true → (list_any test xs ≡ true → (x : X) × (k : ℕ) × IsAt x k xs × (position_or_len test xs ≡ k) × (test x ≡ true))
        → (x : X) × (k : ℕ) × IsAt x k (y ∷ xs) × (cond (not b) (1 + position_or_len test xs) 0 ≡ k) × (test x ≡ true)
    go true f e ih = (y, zero, at_first, refl, f)
    go false f e ih = let r = ih e in let up : 1 + position_or_len test xs ≡ suc r.1 = omega (arith, r.3) in (r.0, suc r.1, at_next y r.2, up, r.4)

-- a slice that was written through, read back
pub written_back : {X : Type 0} (len : ℕ) (new old : List X) → len ≡ length old → length new ≡ length old → take len (new ++ drop (length new) old) ≡ new
written_back len new old e f = let g : len ≡ length new = omega (arith, e, f) in rw g (take-append_seam new (drop (length new) old))

-- a list beside its images
pub zip-map : {X Y : Type 0} (P : X → Y → Type 0) (f : X → Y) (xs : List X) → ((x : X) → IsIn x xs → P x (f x)) → AllZip P xs (map f xs)
zip-map P f [] h = tt
zip-map P f (x ∷ xs) h = (h x here, zip-map P f xs (λ y m. h y (later x m)))

-- each item of the second list has a partner in the first
pub partner_of : {X Y : Type 0} (P : X → Y → Type 0) (xs : List X) {y : Y} {ys : List Y} → AllZip P xs ys → IsIn y ys → (x : X) × IsIn x xs × P x y
partner_of P [] z here = absurd z
partner_of P [] z (later _ m) = absurd z
partner_of P (x ∷ xs) z here = (x, here, z.0)
partner_of P (x ∷ xs) z (later _ m) = let k = partner_of P xs z.1 m in (k.0, later x k.1, k.2)
