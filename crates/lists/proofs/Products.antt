-- Lists with one element of each of several collections, whose sizes add up.
use Rattle.std.proofs.Common.{◌≡◌, ℕ, zero, suc, ◌-◌, ◌*◌, List, [], ◌∷◌, length, refl, sym, ap, ◌∙◌, subst, arith, length-append}
use Rattle.std.specs.Prelude.{map, sum_by}
use Rattle.std.specs.List.{flat_map, range_with_len, AllByRecursion, AllZip}
use Rattle.std.proofs.lemmas.List.{length-map}
use Rattle.std.proofs.lemmas.List.Concat.{length-flat_map}
use Rattle.std.proofs.lemmas.List.Sums.{sum_by-cons}
use Rattle.std.proofs.Math.Nat.{zero-mul}
use Rattle.lists.specs.Members.{IsIn, NoRepeats}
use Rattle.lists.specs.Members.IsIn.{here, later}
use Rattle.lists.specs.Members.NoRepeats.{no_element, one_more}
use Rattle.lists.specs.Products.{choices, product_count}
use Rattle.lists.proofs.Members.{from_IsIn-map, IsIn-map, from_IsIn-flat_map, IsIn-flat_map}
use Rattle.lists.proofs.Repeats.{NoRepeats-map, NoRepeats-flat_map}
use Rattle.lists.proofs.Ranges.{NoRepeats-range_with_len, IsIn-range_with_len, in_range_with_len}
use Rattle.lists.proofs.Counts.{sum_by_agrees}

each_with : {Y : Type 0} (yss : List (List Y)) (ys : List Y) → length (flat_map (λ y. map (λ r. y ∷ r) yss) ys) ≡ length ys * length yss
each_with yss [] = sym (zero-mul (length yss))
each_with yss (y ∷ ys) =
    length-append (map (λ r. y ∷ r) yss) (flat_map (λ z. map (λ r. z ∷ r) yss) ys) ∙ rw (length-map yss (λ r. y ∷ r), each_with yss ys) (omega arith)

-- as many as the product of the counts
pub length-choices : {Y : Type 0} (cs : List (ℕ → List Y)) (n : ℕ) → length (choices cs n) ≡ product_count (map (λ c. λ k. length (c k)) cs) n
length-choices [] zero = refl
length-choices [] (suc n) = refl
length-choices {Y} (c ∷ cs) n =
    length-flat_map (λ (k : ℕ). flat_map (λ y. map (λ ys. y ∷ ys) (choices cs (n - k))) (c k)) (range_with_len 0 (suc n))
    ∙ sum_by_agrees (λ (k : ℕ). length (flat_map (λ y. map (λ ys. y ∷ ys) (choices cs (n - k))) (c k))) (λ k. length (c k) * product_count (map (λ d. λ m. length (d m)) cs) (n - k)) (range_with_len 0 (suc n))
    (λ k _. each_with (choices cs (n - k)) (c k) ∙ ap (λ m. length (c k) * m) (length-choices cs (n - k)))

module _ {Y : Type 0} (size : Y → ℕ) where
  -- each element of a collection is there once, under its size
  pub record IsSized (c : ℕ → List Y) : Type 0 where
    pub once : (k : ℕ) → NoRepeats (c k)
    pub sized : (k : ℕ) (y : Y) → IsIn y (c k) → size y ≡ k

  -- a choice has one element of each collection, and their sizes add up
  pub from_IsIn-choices : (cs : List (ℕ → List Y)) (n : ℕ) (ys : List Y) → AllByRecursion IsSized cs → IsIn ys (choices cs n) → AllZip (λ c y. IsIn y (c (size y))) cs ys × (sum_by size ys ≡ n)
  from_IsIn-choices [] zero _ s here = (tt, refl)
  from_IsIn-choices [] zero ys s (later _ h) = elim h [ ]
  from_IsIn-choices [] (suc n) ys s h = elim h [ ]
  from_IsIn-choices (c ∷ cs) n ys s h =
      let at = from_IsIn-flat_map (λ (k : ℕ). flat_map (λ y. map (λ r. y ∷ r) (choices cs (n - k))) (c k)) (range_with_len 0 (suc n)) h in
      let k = at.0 in
      let small = (IsIn-range_with_len 0 (suc n) k at.1).1 in
      let one = from_IsIn-flat_map (λ (y : Y). map (λ r. y ∷ r) (choices cs (n - k))) (c k) at.2 in
      let rest = from_IsIn-map (λ r. one.0 ∷ r) (choices cs (n - k)) one.2 in
      let ih = from_IsIn-choices cs (n - k) rest.0 s.1 rest.1 in
      let is_k = s.0.sized k one.0 one.1 in
      rw rest.2 ((subst (λ m. IsIn one.0 (c m)) (sym is_k) one.1, ih.0), sum_by-cons size one.0 rest.0 ∙ omega (arith, is_k, ih.1, small))

  -- elements of the collections whose sizes add up are a choice
  pub IsIn-choices : (cs : List (ℕ → List Y)) (n : ℕ) (ys : List Y) → AllZip (λ c y. IsIn y (c (size y))) cs ys → sum_by size ys ≡ n → IsIn ys (choices cs n)
  IsIn-choices [] zero [] h e = here
  IsIn-choices [] (suc n) [] h e = absurd (omega arith)
  IsIn-choices [] n (y ∷ ys) h e = absurd h
  IsIn-choices (c ∷ cs) n [] h e = absurd h
  IsIn-choices (c ∷ cs) n (y ∷ ys) h e =
      let total = sum_by-cons size y ys in
      IsIn-flat_map (λ (k : ℕ). flat_map (λ z. map (λ r. z ∷ r) (choices cs (n - k))) (c k)) (in_range_with_len 0 (suc n) (size y) (omega arith) (omega arith))
      (IsIn-flat_map (λ (z : Y). map (λ r. z ∷ r) (choices cs (n - size y))) h.0 (IsIn-map (λ r. y ∷ r) (IsIn-choices cs (n - size y) ys h.1 (omega arith))))

  abbrev size_of_first : List Y → ℕ
  size_of_first [] = 0
  size_of_first (y ∷ ys) = size y

  first_size : (c : ℕ → List Y) (cs : List (ℕ → List Y)) (k m : ℕ) (w : List Y) → IsSized c → IsIn w (flat_map (λ y. map (λ r. y ∷ r) (choices cs m)) (c k)) → size_of_first w ≡ k
  first_size c cs k m w s h =
      let one = from_IsIn-flat_map (λ (y : Y). map (λ r. y ∷ r) (choices cs m)) (c k) h in
      let rest = from_IsIn-map (λ r. one.0 ∷ r) (choices cs m) one.2 in
      rw rest.2 (s.sized k one.0 one.1)

  -- no choice is listed twice
  pub NoRepeats-choices : (cs : List (ℕ → List Y)) (n : ℕ) → AllByRecursion IsSized cs → NoRepeats (choices cs n)
  NoRepeats-choices [] zero s = one_more (λ h. elim h [ ]) no_element
  NoRepeats-choices [] (suc n) s = no_element
  NoRepeats-choices (c ∷ cs) n s =
      NoRepeats-flat_map (λ (k : ℕ). flat_map (λ y. map (λ r. y ∷ r) (choices cs (n - k))) (c k))
      (λ k. NoRepeats-flat_map (λ (y : Y). map (λ r. y ∷ r) (choices cs (n - k))) (λ y. NoRepeats-map (λ r. y ∷ r) (λ v w e. cc) (NoRepeats-choices cs (n - k) s.1))
      (λ x z w a b. let u = from_IsIn-map (λ r. x ∷ r) (choices cs (n - k)) a in let v = from_IsIn-map (λ r. z ∷ r) (choices cs (n - k)) b in
      let e : x ∷ u.0 ≡ z ∷ v.0 = sym u.2 ∙ v.2 in cc) (s.0.once k))
      (λ k m w a b. sym (first_size c cs k (n - k) w s.0 a) ∙ first_size c cs m (n - m) w s.0 b)
      (NoRepeats-range_with_len 0 (suc n))
