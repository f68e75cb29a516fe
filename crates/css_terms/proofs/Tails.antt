-- The terms of the products of a row's last children.
use Rattle.std.proofs.Common.{◌≡◌, ℕ, zero, suc, ◌+◌, ◌-◌, ◌*◌, ◌<◌, ◌≤◌, Bool, List, [], ◌∷◌, ◌++◌, length, refl, sym, ap, ◌∙◌, subst, arith, get_or, drop, ⊎_elim}
use Rattle.std.specs.Prelude.{map}
use Rattle.std.specs.List.{range_with_len}
use Rattle.std.proofs.lemmas.List.{get_or_append_left, length-map}
use Rattle.std.proofs.Math.Seq.{get_or-append_seam, drop-cons}
use Rattle.lists.specs.Products.{product_count}
use Rattle.lists.proofs.Counts.{sum_by_agrees}
use Rattle.lists.proofs.Ranges.{IsIn-range_with_len}
use Rattle.lists.proofs.Numbers.{less_or_whole}
use Rattle.css_terms.specs.Terms.{capped}
use Rattle.css_terms.specs.Series.{ShowsTails, AreTailsAt, tail_count, convolution, places}
use Rattle.css_terms.specs.declared.term.Term.{Term}
use Rattle.css_terms.specs.declared.term.Term.TheVariants.{Exact}

-- one child more
pub tail_step : (children : List (ℕ × Bool)) (known : ℕ → ℕ → ℕ) (back place n : ℕ) → back < length children → place ≡ get_or (places children) (length children - 1 - back) 0 → tail_count known (places children) (back + 1) n ≡ convolution (known place) (tail_count known (places children) back) n
tail_step children known back place n within at =
    let ks = places children in
    let l = length-map children (λ (c : ℕ × Bool). c.0) in
    let j = length children - 1 - back in
    let e : length ks - (back + 1) ≡ j = omega (arith, l, within) in
    let d : suc j ≡ length ks - back = omega (arith, l, within) in
    let cons : drop j ks ≡ place ∷ drop (length ks - back) ks = drop-cons ks j 0 (omega (arith, l, within)) ∙ rw (sym at, d) refl in
    ap (λ xs. product_count (map known xs) n) (ap (λ i. drop i ks) e ∙ cons)

-- all children
pub tail_whole : (children : List (ℕ × Bool)) (known : ℕ → ℕ → ℕ) (n : ℕ) → tail_count known (places children) (length children) n ≡ product_count (map known (places children)) n
tail_whole children known n =
    let l = length-map children (λ (c : ℕ × Bool). c.0) in
    let e : length (places children) - length children ≡ 0 = omega (arith, l) in
    ap (λ i. product_count (map known (drop i (places children))) n) e

-- no child
pub tail_none : (ks : List ℕ) (known : ℕ → ℕ → ℕ) (n : ℕ) → tail_count known ks 0 n ≡ product_count [] n
tail_none ks known n = ap (λ xs. product_count (map known xs) n) (none ks (length ks - 0) (omega arith))
  where
    none : (xs : List ℕ) (i : ℕ) → i ≡ length xs → drop i xs ≡ []
    none [] zero e = refl
    none [] (suc i) e = refl
    none (x ∷ xs) zero e = absurd (omega (arith, e))
    none (x ∷ xs) (suc i) e = none xs i (omega (arith, e))

-- one term more among those of a length
pub tails_more : (lasts : List Term) (next : Term) (known : ℕ → ℕ → ℕ) (ks : List ℕ) (back n : ℕ) → length lasts ≡ back + 1 → ((b : ℕ) → b ≤ back → get_or lasts b (Exact 0) ≡ capped (tail_count known ks b n)) → next ≡ capped (tail_count known ks (back + 1) n) → (b : ℕ) → b ≤ back + 1 → get_or (lasts ++ next ∷ []) b (Exact 0) ≡ capped (tail_count known ks b n)
tails_more lasts next known ks back n long so e b small =
    ⊎_elim {C = get_or (lasts ++ next ∷ []) b (Exact 0) ≡ capped (tail_count known ks b n)}
    (λ less. get_or_append_left lasts (next ∷ []) (Exact 0) b (omega (arith, less, long)) ∙ so b (omega (arith, less)))
    (λ same. subst (λ m. get_or (lasts ++ next ∷ []) m (Exact 0) ≡ capped (tail_count known ks m n)) (sym (same ∙ sym long)) (get_or-append_seam lasts next [] (Exact 0) ∙ e ∙ ap (λ m. capped (tail_count known ks m n)) (sym long)))
    (less_or_whole b (back + 1) small)

-- the terms of one length more
pub ShowsTails-push : (tails : List (List Term)) (lasts : List Term) (ks : List ℕ) (known : ℕ → ℕ → ℕ) → ShowsTails tails (length tails) ks known → AreTailsAt lasts (length tails) ks known → ShowsTails (tails ++ lasts ∷ []) (length tails + 1) ks known
ShowsTails-push tails lasts ks known shown are back small m less =
    ⊎_elim {C = get_or (get_or (tails ++ lasts ∷ []) m []) back (Exact 0) ≡ capped (tail_count known ks back m)}
    (λ before. ap (λ ts. get_or ts back (Exact 0)) (get_or_append_left tails (lasts ∷ []) [] m before) ∙ shown back small m before)
    (λ same. subst (λ i. get_or (get_or (tails ++ lasts ∷ []) i []) back (Exact 0) ≡ capped (tail_count known ks back i)) (sym same)
    (ap (λ ts. get_or ts back (Exact 0)) (get_or-append_seam tails lasts [] []) ∙ are back small))
    (less_or_whole m (length tails) (omega (arith, less)))

module _ (f g : ℕ → ℕ → ℕ) (m : ℕ) where
  -- the two families agree below m on each of these
  abbrev pub AgreeOn : List ℕ → Type 0
  AgreeOn ks = (slot i : ℕ) → slot < length ks → i < m → f (get_or ks slot 0) i ≡ g (get_or ks slot 0) i

  product_agrees : (ks : List ℕ) → AgreeOn ks → (n : ℕ) → n < m → product_count (map f ks) n ≡ product_count (map g ks) n
  product_agrees [] a n h = refl
  product_agrees (k ∷ ks) a n h =
      sum_by_agrees (λ i. f k i * product_count (map f ks) (n - i)) (λ i. g k i * product_count (map g ks) (n - i)) (range_with_len 0 (suc n))
      (λ i x. let p = IsIn-range_with_len 0 (suc n) i x in rw (a 0 i (omega arith) (omega (arith, p.1, h)), product_agrees ks (λ slot j less small. a (suc slot) j (omega (arith, less)) small) (n - i) (omega (arith, h))) refl)

  drop_agrees : (ks : List ℕ) (j : ℕ) → AgreeOn ks → AgreeOn (drop j ks)
  drop_agrees ks zero a = a
  drop_agrees [] (suc j) a = a
  drop_agrees (k ∷ ks) (suc j) a = drop_agrees ks j (λ slot i less small. a (suc slot) i (omega (arith, less)) small)

  -- so terms that show products by one show them by the other
  pub tails_agree : (tails : List (List Term)) (ks : List ℕ) (n : ℕ) → AgreeOn ks → n ≤ m → ShowsTails tails n ks f → ShowsTails tails n ks g
  tails_agree tails ks n a h shown back small i less = shown back small i less ∙ ap capped (product_agrees (drop (length ks - back) ks) (drop_agrees ks (length ks - back) a) i (omega (arith, less, h)))

-- one list more that is empty
pub empties_more : (xs : List (List (List Term))) → ((c : ℕ) → get_or xs c [] ≡ []) → (c : ℕ) → get_or (xs ++ [] ∷ []) c [] ≡ []
empties_more [] h zero = refl
empties_more [] h (suc c) = refl
empties_more (x ∷ xs) h zero = h zero
empties_more (x ∷ xs) h (suc c) = empties_more xs (λ d. h (suc d)) c
