-- What series of terms show, as they are made.
use Rattle.std.proofs.Common.{◌≡◌, ℕ, zero, suc, ◌+◌, ◌<◌, Bool, false, List, [], ◌∷◌, ◌++◌, length, sym, ap, ◌∙◌, subst, arith, get_or, take, ⊎_elim, length-append}
use Rattle.std.specs.Prelude.{map, sum_by}
use Rattle.std.proofs.lemmas.List.{get_or-map, get_or_append_left, length-map}
use Rattle.std.proofs.lemmas.List.Sums.{sum_by-cons}
use Rattle.std.proofs.Math.Seq.{get_or-append_seam}
use Rattle.lists.proofs.Numbers.{less_or_whole}
use Rattle.css_terms.specs.Terms.{capped}
use Rattle.css_terms.specs.Series.{Shows, AreBelow, places}
use Rattle.css_terms.specs.declared.term.Term.{Term}
use Rattle.css_terms.specs.declared.term.Term.TheVariants.{Exact}

pub length-push : {X : Type 0} (xs : List X) (x : X) → length (xs ++ x ∷ []) ≡ length xs + 1
length-push xs x = length-append xs (x ∷ [])

-- one more term
pub Shows-push : (xs : List Term) (x : Term) (f : ℕ → ℕ) → Shows xs f → x ≡ capped (f (length xs)) → Shows (xs ++ x ∷ []) f
Shows-push xs x f s e n small =
    let l = length-push xs x in
    ⊎_elim {C = get_or (xs ++ x ∷ []) n (Exact 0) ≡ capped (f n)} (λ less. get_or_append_left xs (x ∷ []) (Exact 0) n less ∙ s n less)
    (λ same. subst (λ m. get_or (xs ++ x ∷ []) m (Exact 0) ≡ capped (f m)) (sym same) (get_or-append_seam xs x [] (Exact 0) ∙ e))
    (less_or_whole n (length xs) (omega (arith, small, l)))

-- what a child's place is
pub place_at : (children : List (ℕ × Bool)) (i : ℕ) → i < length children → (get_or children i (0, false)).0 ≡ get_or (places children) i 0
place_at children i h = sym (get_or-map (λ (c : ℕ × Bool). c.0) children i (0, false) 0 h)

pub below_at : (children : List (ℕ × Bool)) (i end : ℕ) → AreBelow end (places children) → i < length children → (get_or children i (0, false)).0 < end
below_at children i end below h = let l = length-map children (λ (c : ℕ × Bool). c.0) in subst (λ n. n < end) (sym (place_at children i h)) (below i (omega (arith, h, l)))

-- one more summand
pub sum_step : (children : List (ℕ × Bool)) (known : ℕ → ℕ → ℕ) (n i place : ℕ) → i < length children → place ≡ get_or (places children) i 0 → sum_by (λ c. c n) (map known (places (take (i + 1) children))) ≡ sum_by (λ c. c n) (map known (places (take i children))) + known place n
sum_step [] known n i place within at = absurd (omega (arith, within))
sum_step (x ∷ xs) known n zero place within at =
    ap (λ p. 0 + known p n) (sym at)
sum_step (x ∷ xs) known n (suc i) place within at =
    let e : suc i + 1 ≡ suc (i + 1) = omega arith in
    let f : (ℕ → ℕ) → ℕ = λ c. c n in
    let ih = sum_step xs known n i place (omega (arith, within)) at in
    let a = sum_by-cons f (known x.0) (map known (places (take (i + 1) xs))) in
    let b = sum_by-cons f (known x.0) (map known (places (take i xs))) in
    rw e (let goal : sum_by f (known x.0 ∷ map known (places (take (i + 1) xs))) ≡ sum_by f (known x.0 ∷ map known (places (take i xs))) + known place n = omega (arith, a, b, ih) in goal)
