-- Laws of parts: they compose, go through a map and a filter, are listed by length, and stand at rising places.
use Rattle.std.proofs.Common.{◌≡◌, ◌+◌, ◌≤◌, ℕ, zero, suc, pred, Bool, true, false, cond, List, [], ◌∷◌, ◌++◌, length, refl, ap, inl, inr, ⊎_elim, arith}
use Rattle.std.specs.Prelude.{◌⊎◌, map}
use Rattle.std.specs.List.{filter, list_all, AllByRecursion}
use Rattle.std.proofs.lemmas.Bool.{and_parts, and_from}
use Rattle.lists.specs.Members.{IsIn}
use Rattle.lists.specs.Members.IsIn.{here, later}
use Rattle.lists.specs.Parts.{IsPart, IsRising, StandAt, parts}
use Rattle.lists.specs.Parts.IsPart.{none, kept, left_out}
use Rattle.lists.proofs.Members.{from_IsIn-map, IsIn-map, IsIn-append_cases, IsIn-append_left, IsIn-append_right}

-- a list is a part of itself
pub IsPart-itself : {X : Type 0} (xs : List X) → IsPart xs xs
IsPart-itself [] = none
IsPart-itself (x ∷ xs) = kept x (IsPart-itself xs)

-- a part of a part is a part
pub IsPart-trans : {X : Type 0} {a b c : List X} → IsPart a b → IsPart b c → IsPart a c
IsPart-trans h none = h
IsPart-trans (kept x h) (kept _ k) = kept x (IsPart-trans h k)
IsPart-trans (left_out x h) (kept _ k) = left_out x (IsPart-trans h k)
IsPart-trans h (left_out y k) = left_out y (IsPart-trans h k)

-- a mapped part is a part of the mapped list
pub IsPart-map : {X Y : Type 0} (f : X → Y) {a b : List X} → IsPart a b → IsPart (map f a) (map f b)
IsPart-map f none = none
IsPart-map f (kept x h) = kept (f x) (IsPart-map f h)
IsPart-map f (left_out x h) = left_out (f x) (IsPart-map f h)

-- a part of a mapped list is a mapped part
pub from_IsPart-map : {X Y : Type 0} (f : X → Y) (b : List X) {a : List Y} → IsPart a (map f b) → (c : List X) × IsPart c b × (a ≡ map f c)
from_IsPart-map f [] none = ([], none, refl)
from_IsPart-map f (x ∷ b) (kept _ h) = let k = from_IsPart-map f b h in (x ∷ k.0, kept x k.1, ap (λ l. f x ∷ l) k.2)
from_IsPart-map f (x ∷ b) (left_out _ h) = let k = from_IsPart-map f b h in (k.0, left_out x k.1, k.2)

-- a part whose items pass is a part of the filtered list
pub IsPart-filter : {X : Type 0} (p : X → Bool) {a b : List X} → IsPart a b → AllByRecursion (λ x. p x ≡ true) a → IsPart a (filter p b)
IsPart-filter p none t = none
IsPart-filter p (kept x h) t = rw t.0 (kept x (IsPart-filter p h t.1))
IsPart-filter {X} p {a} (left_out {whole = b} x h) t = go (p x) (IsPart-filter p h t)
  where
    go : (r : Bool) → IsPart a (filter p b) → IsPart a (cond r (x ∷ filter p b) (filter p b))
    go true k = left_out x k
    go false k = k

-- a filtered list is a part
pub filter-IsPart : {X : Type 0} (p : X → Bool) (b : List X) → IsPart (filter p b) b
filter-IsPart p [] = none
filter-IsPart {X} p (x ∷ b) = go (p x) (filter-IsPart p b)
  where
    go : (r : Bool) → IsPart (filter p b) b → IsPart (cond r (x ∷ filter p b) (filter p b)) (x ∷ b)
    go true k = kept x k
    go false k = left_out x k

-- the empty list is a part of each
pub IsPart-nothing : {X : Type 0} (whole : List X) → IsPart [] whole
IsPart-nothing [] = none
IsPart-nothing (x ∷ xs) = left_out x (IsPart-nothing xs)

-- a part is no longer than the whole
pub length-IsPart : {X : Type 0} {part whole : List X} → IsPart part whole → length part ≤ length whole
length-IsPart none = omega arith
length-IsPart (kept x h) = let k = length-IsPart h in omega arith
length-IsPart (left_out x h) = let k = length-IsPart h in omega arith

-- a part that is as long as the whole is the whole
pub IsPart-as_long : {X : Type 0} {part whole : List X} → IsPart part whole → length whole ≤ length part → part ≡ whole
IsPart-as_long none l = refl
IsPart-as_long (kept x h) l = ap (λ rest. x ∷ rest) (IsPart-as_long h (omega arith))
IsPart-as_long (left_out x h) l = let k = length-IsPart h in absurd (omega arith)

-- what is in a part is in the whole
pub IsIn-IsPart : {X : Type 0} {x : X} {part whole : List X} → IsPart part whole → IsIn x part → IsIn x whole
IsIn-IsPart none m = m
IsIn-IsPart (kept x h) here = here
IsIn-IsPart (kept x h) (later _ m) = later x (IsIn-IsPart h m)
IsIn-IsPart (left_out x h) m = later x (IsIn-IsPart h m)

-- an item alone is a part
pub IsPart-one : {X : Type 0} {x : X} {xs : List X} → IsIn x xs → IsPart (x ∷ []) xs
IsPart-one (here {xs = xs}) = kept _ (IsPart-nothing xs)
IsPart-one (later y m) = left_out y (IsPart-one m)

-- of two different items, one stands before the other
pub IsPart-two : {X : Type 0} {x y : X} {whole : List X} → IsIn x whole → IsIn y whole → (x ≡ y → ⊥) → IsPart (x ∷ y ∷ []) whole ⊎ IsPart (y ∷ x ∷ []) whole
IsPart-two here here apart = absurd (apart refl)
IsPart-two here (later _ m) apart = inl (kept _ (IsPart-one m))
IsPart-two (later _ m) here apart = inr (kept _ (IsPart-one m))
IsPart-two {x = x} {y = y} (later {xs = xs} z m) (later _ k) apart =
    ⊎_elim {C = IsPart (x ∷ y ∷ []) (z ∷ xs) ⊎ IsPart (y ∷ x ∷ []) (z ∷ xs)} (λ a. inl (left_out z a)) (λ a. inr (left_out z a)) (IsPart-two m k apart)

-- where all of the whole pass, all of a part do
pub list_all-IsPart : {X : Type 0} (test : X → Bool) {part whole : List X} → IsPart part whole → list_all test whole ≡ true → list_all test part ≡ true
list_all-IsPart test none e = e
list_all-IsPart test (kept {part} {whole} x h) e = let k = and_parts (test x) (list_all test whole) e in and_from (test x) (list_all test part) k.0 (list_all-IsPart test h k.1)
list_all-IsPart test (left_out {whole = whole} x h) e = list_all-IsPart test h (and_parts (test x) (list_all test whole) e).1

-- parts put together are a part of the lists put together
pub IsPart-append : {X : Type 0} {a b c d : List X} → IsPart a b → IsPart c d → IsPart (a ++ c) (b ++ d)
IsPart-append none k = k
IsPart-append (kept x h) k = kept x (IsPart-append h k)
IsPart-append (left_out x h) k = left_out x (IsPart-append h k)

-- two parts lie in one that is no longer than both
pub IsPart-joined : {X : Type 0} {a b w : List X} → IsPart a w → IsPart b w → (c : List X) × IsPart c w × IsPart a c × IsPart b c × (length c ≤ length a + length b)
IsPart-joined none none = ([], none, none, none, omega arith)
IsPart-joined (kept x h) (kept _ k) = let j = IsPart-joined h k in (x ∷ j.0, kept x j.1, kept x j.2, kept x j.3, omega (arith, j.4))
IsPart-joined (kept x h) (left_out _ k) = let j = IsPart-joined h k in (x ∷ j.0, kept x j.1, kept x j.2, left_out x j.3, omega (arith, j.4))
IsPart-joined (left_out x h) (kept _ k) = let j = IsPart-joined h k in (x ∷ j.0, kept x j.1, left_out x j.2, kept x j.3, omega (arith, j.4))
IsPart-joined (left_out x h) (left_out _ k) = let j = IsPart-joined h k in (j.0, left_out x j.1, j.2, j.3, j.4)

-- ---- the parts of a length
-- a part is listed among those of its length
pub IsIn-parts : {X : Type 0} {part whole : List X} → IsPart part whole → IsIn part (parts (length part) whole)
IsIn-parts none = here
IsIn-parts (kept {part} {whole} x h) = IsIn-append_left (parts (suc (length part)) whole) (IsIn-map (λ p. x ∷ p) (IsIn-parts h))
IsIn-parts (left_out {part = []} x h) = here
IsIn-parts (left_out {part = y ∷ part} {whole} x h) = IsIn-append_right (map (λ p. x ∷ p) (parts (length part) whole)) (IsIn-parts h)

-- what is listed among the parts of a length is a part, and has that length
pub from_IsIn-parts : {X : Type 0} (n : ℕ) (whole : List X) {part : List X} → IsIn part (parts n whole) → IsPart part whole × (length part ≡ n)
from_IsIn-parts zero whole here = (IsPart-nothing whole, refl)
from_IsIn-parts zero whole (later _ h) = elim h [ ]
from_IsIn-parts (suc n) [] h = elim h [ ]
from_IsIn-parts {X} (suc n) (x ∷ whole) {part} h =
    ⊎_elim (first (λ p m. from_IsIn-parts n whole {part = p} m)) (λ m. let k = from_IsIn-parts (suc n) whole m in (left_out x k.0, k.1)) (IsIn-append_cases (map (λ p. x ∷ p) (parts n whole)) (parts (suc n) whole) h)
  where
    first : ((p : List X) → IsIn p (parts n whole) → IsPart p whole × (length p ≡ n)) → IsIn part (map (λ p. x ∷ p) (parts n whole)) → IsPart part (x ∷ whole) × (length part ≡ suc n)
    first ih m =
        let w = from_IsIn-map (λ p. x ∷ p) (parts n whole) m in
        let k = ih w.0 w.1 in
        rw w.2 (kept x k.0, ap suc k.1)

-- ---- rising places
shifted_up : {X : Type 0} (z : X) (xs : List X) (ks : List ℕ) (ys : List X) → StandAt xs ks ys → StandAt (z ∷ xs) (map suc ks) ys
shifted_up z xs [] [] h = tt
shifted_up z xs [] (y ∷ ys) h = absurd h
shifted_up z xs (k ∷ ks) [] h = absurd h
shifted_up z xs (k ∷ ks) (y ∷ ys) h = (h.0, shifted_up z xs ks ys h.1)

rising_up : (from end : ℕ) (ks : List ℕ) → IsRising from end ks → IsRising (suc from) (suc end) (map suc ks)
rising_up from end [] h = tt
rising_up from end (k ∷ ks) h = (omega arith, omega arith, rising_up (suc k) end ks h.2)

from_lower : (from end : ℕ) (ks : List ℕ) → IsRising (suc from) end ks → IsRising from end ks
from_lower from end [] h = tt
from_lower from end (k ∷ ks) h = (omega arith, h.1, h.2)

-- the places at which a part stands
pub places_of : {X : Type 0} {part whole : List X} → IsPart part whole → (places : List ℕ) × IsRising 0 (length whole) places × StandAt whole places part
places_of none = ([], tt, tt)
places_of (kept {part} {whole} x h) =
    let k = places_of h in
    (0 ∷ map suc k.0, (omega arith, omega arith, rising_up 0 (length whole) k.0 k.1), ((λ d. refl), shifted_up x whole k.0 part k.2))
places_of (left_out {part} {whole} x h) =
    let k = places_of h in
    (map suc k.0, from_lower 0 (suc (length whole)) (map suc k.0) (rising_up 0 (length whole) k.0 k.1), shifted_up x whole k.0 part k.2)

rising_down : (from end : ℕ) (ks : List ℕ) → IsRising (suc from) (suc end) ks → IsRising from end (map pred ks)
rising_down from end [] h = tt
rising_down from end (zero ∷ ks) h = absurd (omega (arith, h.0))
rising_down from end (suc k ∷ ks) h = (omega (arith, h.0), omega (arith, h.1), rising_down (suc k) end ks h.2)

shifted_down : {X : Type 0} (z : X) (xs : List X) (from end : ℕ) (ks : List ℕ) (ys : List X) → IsRising (suc from) end ks → StandAt (z ∷ xs) ks ys → StandAt xs (map pred ks) ys
shifted_down z xs from end [] [] r h = tt
shifted_down z xs from end [] (y ∷ ys) r h = absurd h
shifted_down z xs from end (k ∷ ks) [] r h = absurd h
shifted_down z xs from end (zero ∷ ks) (y ∷ ys) r h = absurd (omega (arith, r.0))
shifted_down z xs from end (suc k ∷ ks) (y ∷ ys) r h = (h.0, shifted_down z xs (suc k) end ks ys r.2 h.1)

-- what stands at rising places is a part
pub part_at_places : {X : Type 0} (whole : List X) (ks : List ℕ) (part : List X) → IsRising 0 (length whole) ks → StandAt whole ks part → IsPart part whole
part_at_places whole [] [] r h = IsPart-nothing whole
part_at_places whole [] (y ∷ ys) r h = absurd h
part_at_places whole (k ∷ ks) [] r h = absurd h
part_at_places [] (k ∷ ks) (y ∷ ys) r h = absurd (omega (arith, r.1))
part_at_places (x ∷ xs) (zero ∷ ks) (y ∷ ys) r h =
    rw (← h.0 x) (kept x (part_at_places xs (map pred ks) ys (rising_down 0 (length xs) ks r.2) (shifted_down x xs 0 (suc (length xs)) ks ys r.2 h.1)))
part_at_places (x ∷ xs) (suc k ∷ ks) (y ∷ ys) r h =
    left_out x (part_at_places xs (map pred (suc k ∷ ks)) (y ∷ ys) (rising_down 0 (length xs) (suc k ∷ ks) (omega (arith, r.0), r.1, r.2))
    (shifted_down x xs 0 (suc (length xs)) (suc k ∷ ks) (y ∷ ys) (omega (arith, r.0), r.1, r.2) h))
