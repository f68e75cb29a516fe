-- Several lists put together, so that each element tells its list.
use Rattle.std.proofs.Common.{◌≡◌, ℕ, zero, suc, ◌+◌, ◌-◌, ◌<◌, ◌≤◌, List, [], ◌∷◌, ◌++◌, length, refl, sym, ap, ◌∙◌, ⊎_elim, arith, length-append, get_or}
use Rattle.std.specs.Prelude.{map}
use Rattle.std.specs.List.{sum_by, AllByRecursion}
use Rattle.std.proofs.lemmas.List.{length-map}
use Rattle.std.proofs.lemmas.List.Sums.{sum_by-cons}
use Rattle.lists.specs.Members.{IsIn, NoRepeats}
use Rattle.lists.specs.Members.NoRepeats.{no_element}
use Rattle.lists.specs.Unions.{numbered}
use Rattle.lists.proofs.Members.{from_IsIn-map, IsIn-map, IsIn-append_cases, IsIn-append_left, IsIn-append_right}
use Rattle.lists.proofs.Repeats.{NoRepeats-append, NoRepeats-map}

-- as many as the lists together
pub length-numbered : {Y : Type 0} (k : ℕ) (yss : List (List Y)) → length (numbered k yss) ≡ sum_by (λ ys. length ys) yss
length-numbered k [] = refl
length-numbered k (ys ∷ yss) =
    length-append (map (λ y. (k, y)) ys) (numbered (suc k) yss)
    ∙ ap (λ n. n + length (numbered (suc k) yss)) (length-map ys (λ y. (k, y)))
    ∙ ap (λ n. length ys + n) (length-numbered (suc k) yss)
    ∙ sym (sum_by-cons (λ zs. length zs) ys yss)

-- what is in the union is in the list of its number
pub from_IsIn-numbered : {Y : Type 0} (k : ℕ) (yss : List (List Y)) (i : ℕ) (y : Y) → IsIn {X = ℕ × Y} (i, y) (numbered k yss) → (k ≤ i) × IsIn y (get_or yss (i - k) [])
from_IsIn-numbered k [] i y h = elim h [ ]
from_IsIn-numbered {Y} k (ys ∷ yss) i y h = ⊎_elim first (λ m. rest (from_IsIn-numbered (suc k) yss i y m)) (IsIn-append_cases (map (λ z. (k, z)) ys) (numbered (suc k) yss) h)
  where
    first : IsIn {X = ℕ × Y} (i, y) (map (λ z. (k, z)) ys) → (k ≤ i) × IsIn y (get_or (ys ∷ yss) (i - k) [])
    first m =
        let w = from_IsIn-map (λ (z : Y). (k, z)) ys m in
        let same_number : i ≡ k = ap (λ (p : ℕ × Y). p.0) w.2 in
        let same_item : y ≡ w.0 = ap (λ (p : ℕ × Y). p.1) w.2 in
        let at_start : i - k ≡ 0 = omega arith in
        (omega arith, rw (at_start, same_item) w.1)

    rest : (suc k ≤ i) × IsIn y (get_or yss (i - suc k) []) → (k ≤ i) × IsIn y (get_or (ys ∷ yss) (i - k) [])
    rest w =
        let past : suc k ≤ i = w.0 in
        let e : i - k ≡ suc (i - suc k) = omega arith in
        (omega arith, rw e w.1)

-- what is in a list is in the union, with the list's number
pub IsIn-numbered : {Y : Type 0} (k : ℕ) (yss : List (List Y)) (i : ℕ) (y : Y) → k ≤ i → IsIn y (get_or yss (i - k) []) → IsIn {X = ℕ × Y} (i, y) (numbered k yss)
IsIn-numbered k [] i y le h = elim h [ ]
IsIn-numbered {Y} k (ys ∷ yss) i y le h = go (λ a b. IsIn-numbered (suc k) yss i y a b) (i - k) refl h
  where
    go : (suc k ≤ i → IsIn y (get_or yss (i - suc k) []) → IsIn {X = ℕ × Y} (i, y) (numbered (suc k) yss)) → (d : ℕ) → i - k ≡ d → IsIn y (get_or (ys ∷ yss) d []) → IsIn {X = ℕ × Y} (i, y) (map (λ z. (k, z)) ys ++ numbered (suc k) yss)
    go ih zero e m =
        let same : i ≡ k = omega arith in
        rw same (IsIn-append_left (numbered (suc k) yss) (IsIn-map (λ (z : Y). (k, z)) m))
    go ih (suc d) e m =
        let back : i - suc k ≡ d = omega arith in
        IsIn-append_right (map (λ z. (k, z)) ys) (ih (omega arith) (rw back m))

-- lists without repeats have none together where each tells its list
pub NoRepeats-numbered : {Y : Type 0} (k : ℕ) (yss : List (List Y)) → AllByRecursion (λ ys. NoRepeats ys) yss → NoRepeats (numbered k yss)
NoRepeats-numbered k [] h = no_element
NoRepeats-numbered {Y} k (ys ∷ yss) h =
    NoRepeats-append (NoRepeats-map (λ (y : Y). (k, y)) (λ x z e. ap (λ (p : ℕ × Y). p.1) e) h.0) (NoRepeats-numbered (suc k) yss h.1)
    (λ p a b. let w = from_IsIn-map (λ (y : Y). (k, y)) ys a in
    let first : p.0 ≡ k = ap (λ (q : ℕ × Y). q.0) w.2 in
    let past : suc k ≤ p.0 = (from_IsIn-numbered (suc k) yss p.0 p.1 b).0 in
    absurd (omega arith))

-- a list that has something is one of the lists
pub within_from_IsIn : {Y : Type 0} (yss : List (List Y)) (i : ℕ) {y : Y} → IsIn y (get_or yss i []) → i < length yss
within_from_IsIn [] i m = elim m [ ]
within_from_IsIn (ys ∷ yss) zero m = omega arith
within_from_IsIn (ys ∷ yss) (suc i) m = let k = within_from_IsIn yss i m in omega arith
