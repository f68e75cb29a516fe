-- Where the terms end.
use Rattle.std.proofs.Common.{◌≡◌, ℕ, zero, suc, ◌+◌, ◌<◌, ◌≤◌, true, false, List, [], ◌∷◌, length, refl, sym, ap, ◌∙◌, subst, arith, get_or, ⊎_elim}
use Rattle.std.specs.Prelude.{map}
use Rattle.std.specs.List.{range_with_len}
use Rattle.css_terms.specs.Terms.{capped, cut, terms_to}
use Rattle.css_terms.specs.Series.{Shows, is_big}
use Rattle.css_terms.specs.declared.term.Term.{Term}
use Rattle.css_terms.specs.declared.term.Term.TheVariants.{Exact, Big}
use Rattle.lists.proofs.Numbers.{less_or_whole}

-- no term below n is big
abbrev pub NoneBig : (ℕ → ℕ) → ℕ → Type 0
NoneBig f n = (m : ℕ) → m < n → is_big (capped (f m)) ≡ false

cut_exact : (t : Term) (ts : List Term) → is_big t ≡ false → cut (t ∷ ts) ≡ t ∷ cut ts
cut_exact (Exact x) ts h = refl
cut_exact Big ts h = absurd cc

cut_big : (t : Term) (ts : List Term) → is_big t ≡ true → cut (t ∷ ts) ≡ t ∷ []
cut_big (Exact x) ts h = absurd cc
cut_big Big ts h = refl

module _ (f : ℕ → ℕ) where
  rest_shows : (x : Term) (s : List Term) (a : ℕ) → ((m : ℕ) → m < length (x ∷ s) → get_or (x ∷ s) m (Exact 0) ≡ capped (f (a + m))) → (m : ℕ) → m < length s → get_or s m (Exact 0) ≡ capped (f (a + 1 + m))
  rest_shows x s a h m small = let e : a + suc m ≡ a + 1 + m = omega arith in h (suc m) (omega (arith, small)) ∙ ap (λ n. capped (f n)) e

  first_shows : (x : Term) (s : List Term) (a : ℕ) → ((m : ℕ) → m < length (x ∷ s) → get_or (x ∷ s) m (Exact 0) ≡ capped (f (a + m))) → x ≡ capped (f a)
  first_shows x s a h = let e : a + 0 ≡ a = omega arith in h 0 (omega arith) ∙ ap (λ n. capped (f n)) e

  rest_small : (a r : ℕ) → ((m : ℕ) → m < suc r → is_big (capped (f (a + m))) ≡ false) → (m : ℕ) → m < r → is_big (capped (f (a + 1 + m))) ≡ false
  rest_small a r h m small = let e : a + suc m ≡ a + 1 + m = omega arith in subst (λ n. is_big (capped (f n)) ≡ false) e (h (suc m) (omega (arith, small)))

  first_small : (a r : ℕ) → ((m : ℕ) → m < suc r → is_big (capped (f (a + m))) ≡ false) → is_big (capped (f a)) ≡ false
  first_small a r h = let e : a + 0 ≡ a = omega arith in subst (λ n. is_big (capped (f n)) ≡ false) e (h 0 (omega arith))

  whole : (r a : ℕ) (s : List Term) → length s ≡ r → ((m : ℕ) → m < length s → get_or s m (Exact 0) ≡ capped (f (a + m))) → ((m : ℕ) → m < r → is_big (capped (f (a + m))) ≡ false) → s ≡ cut (map (λ n. capped (f n)) (range_with_len a r))
  whole zero a [] l h none = refl
  whole zero a (x ∷ s) l h none = absurd (omega (arith, l))
  whole (suc r) a [] l h none = absurd (omega (arith, l))
  whole (suc r) a (x ∷ s) l h none =
      let ih = whole r (a + 1) s (omega (arith, l)) (rest_shows x s a h) (rest_small a r none) in
      let first = first_shows x s a h in
      rw (cut_exact (capped (f a)) (map (λ n. capped (f n)) (range_with_len (a + 1) r)) (first_small a r none)) (λ i. first i ∷ ih i)

  ended : (k r a : ℕ) (s : List Term) → length s ≡ k + 1 → k < r → ((m : ℕ) → m < length s → get_or s m (Exact 0) ≡ capped (f (a + m))) → ((m : ℕ) → m < k → is_big (capped (f (a + m))) ≡ false) → is_big (get_or s k (Exact 0)) ≡ true → s ≡ cut (map (λ n. capped (f n)) (range_with_len a r))
  ended k zero a s l small h none big = absurd (omega (arith, small))
  ended zero (suc r) a [] l small h none big = absurd (omega (arith, l))
  ended zero (suc r) a (x ∷ []) l small h none big =
      let first = first_shows x [] a h in
      rw (cut_big (capped (f a)) (map (λ n. capped (f n)) (range_with_len (a + 1) r)) (subst (λ t. is_big t ≡ true) first big)) (λ i. first i ∷ [])
  ended zero (suc r) a (x ∷ y ∷ s) l small h none big = absurd (omega (arith, l))
  ended (suc k) (suc r) a [] l small h none big = absurd (omega (arith, l))
  ended (suc k) (suc r) a (x ∷ s) l small h none big =
      let ih = ended k r (a + 1) s (omega (arith, l)) (omega (arith, small)) (rest_shows x s a h) (rest_small a k none) big in
      let first = first_shows x s a h in
      rw (cut_exact (capped (f a)) (map (λ n. capped (f n)) (range_with_len (a + 1) r)) (first_small a k none)) (λ i. first i ∷ ih i)

  from_start : (s : List Term) → Shows s f → (m : ℕ) → m < length s → get_or s m (Exact 0) ≡ capped (f (0 + m))
  from_start s h m small = let e : m ≡ 0 + m = omega arith in h m small ∙ ap (λ n. capped (f n)) e

  none_from_start : (n : ℕ) → NoneBig f n → (m : ℕ) → m < n → is_big (capped (f (0 + m))) ≡ false
  none_from_start n h m small = let e : m ≡ 0 + m = omega arith in subst (λ x. is_big (capped (f x)) ≡ false) e (h m small)

  -- all terms, where none is big
  pub whole_terms : (s : List Term) (last : ℕ) → length s ≡ last + 1 → Shows s f → NoneBig f (last + 1) → s ≡ terms_to last f
  whole_terms s last l h none = let e : last + 1 ≡ suc last = omega arith in whole (suc last) 0 s (l ∙ e) (from_start s h) (none_from_start (suc last) (subst (λ n. NoneBig f n) e none))

  -- the terms as far as the first big one
  pub ended_terms : (s : List Term) (n last : ℕ) → length s ≡ n + 1 → n ≤ last → Shows s f → NoneBig f n → is_big (get_or s n (Exact 0)) ≡ true → s ≡ terms_to last f
  ended_terms s n last l small h none big = ended n (suc last) 0 s l (omega (arith, small)) (from_start s h) (none_from_start n none) big

  -- one more term that isn't big
  pub none_more : (s : List Term) (n : ℕ) → n < length s → Shows s f → NoneBig f n → is_big (get_or s n (Exact 0)) ≡ false → NoneBig f (n + 1)
  none_more s n long h none small m below =
      ⊎_elim {C = is_big (capped (f m)) ≡ false} (λ less. none m less) (λ same. subst (λ x. is_big (capped (f x)) ≡ false) (sym same) (subst (λ t. is_big t ≡ false) (h n long) small))
      (less_or_whole m n (omega (arith, below)))
