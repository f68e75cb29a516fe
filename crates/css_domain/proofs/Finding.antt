-- What stands at a place of a list, and where in a list something is.
use Rattle.std.proofs.Common.{◌≡◌, ℕ, Bool, true, false, List, [], ◌∷◌, refl, sym, subst, inl, inr, ⊎_elim}
use Rattle.std.specs.Prelude.{◌⊎◌, ◌||◌, ◌==◌}
use Rattle.std.proofs.lemmas.Bool.{eqb-true, eq-eqb, or_cases}
use Rattle.lists.specs.Members.IsIn.{here, later}
use Rattle.lists.specs.Members.{IsIn}
use Rattle.css_domain.specs.Ledgers.{is_among}

-- ---- numbers
pub same_or_other : (a b : ℕ) → (a ≡ b) ⊎ (a ≡ b → ⊥)
same_or_other a b = go (a == b) refl
  where
    go : (t : Bool) → (a == b) ≡ t → (a ≡ b) ⊎ (a ≡ b → ⊥)
    go true e = inl (eqb-true a b e)
    go false e = inr (λ s. absurd (let f = eq-eqb a b s in cc))

-- ---- tests
pub among_from_in : (n : ℕ) (ns : List ℕ) → IsIn n ns → is_among n ns ≡ true
among_from_in n [] h = elim h [ ]
among_from_in n (m ∷ ns) (here) = rw (eq-eqb n n refl) refl
among_from_in n (m ∷ ns) (later _ h) = go (n == m) (among_from_in n ns h)
  where
    go : (b : Bool) → is_among n ns ≡ true → (b || is_among n ns) ≡ true
    go true e = refl
    go false e = e

pub in_from_among : (n : ℕ) (ns : List ℕ) → is_among n ns ≡ true → IsIn n ns
in_from_among n [] h = absurd cc
in_from_among n (m ∷ ns) h =
    ⊎_elim {C = IsIn n (m ∷ ns)}
    (λ e. let s : m ≡ n = sym (eqb-true n m e) in subst (λ k. IsIn n (k ∷ ns)) (sym s) here)
    (λ e. later m (in_from_among n ns e))
    (or_cases (n == m) (is_among n ns) h)
