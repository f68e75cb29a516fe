-- What an exact term tells.
use Rattle.std.proofs.Common.{◌≡◌, ℕ, zero, suc, ◌+◌, ◌^◌, Bool, true, false, List, ◌∷◌, refl, sym, ap, ◌∙◌, subst, arith, nat_lt}
use Rattle.std.specs.Prelude.{map, slice_get, Some, if◌then◌else◌}
use Rattle.std.specs.List.{range_with_len}
use Rattle.patterns.specs.Occurs.{avoiders}
use Rattle.css_terms.specs.declared.term.Term.{Term}
use Rattle.css_terms.specs.declared.term.Term.TheVariants.{Exact, Big}
use Rattle.css_terms.specs.Terms.{capped, cut}
use Rattle.basis_terms.specs.BasisTerms.{ExactTermsAreAvoiders}

abbrev number_or : ℕ → Term → ℕ
number_or d (Exact x) = x
number_or d Big = d

exact_of : (v x : ℕ) (b : Bool) → (if b then Exact v else Big) ≡ Exact x → v ≡ x
exact_of v x true h = ap (λ t. number_or v t) h
exact_of v x false h = absurd cc

-- the term of a number that is exact is that number
exact_number : (v x : ℕ) → capped v ≡ Exact x → v ≡ x
exact_number v x h = exact_of v x (nat_lt v (2 ^ 128)) h

module _ (f : ℕ → ℕ) where
  -- the term at n of a list whose first one stands for the number at a, when those after it are as told
  exact_after : (a x : ℕ) (terms : List Term) → ((n : ℕ) → slice_get (cut terms) n ≡ Some (Exact x) → x ≡ f (a + 1 + n)) → (t : Term) → capped (f a) ≡ t → (n : ℕ) → slice_get (cut (t ∷ terms)) n ≡ Some (Exact x) → x ≡ f (a + n)
  exact_after a x terms rest (Exact y) e zero h = let same : Exact y ≡ Exact x = cc in let d : a + 0 ≡ a = omega arith in rw d (sym (exact_number (f a) x (e ∙ same)))
  exact_after a x terms rest (Exact y) e (suc n) h = let d : a + suc n ≡ a + 1 + n = omega arith in rw d (rest n h)
  exact_after a x terms rest Big e zero h = absurd cc
  exact_after a x terms rest Big e (suc n) h = absurd cc

  exact_from : (r a n x : ℕ) → slice_get (cut (map (λ m. capped (f m)) (range_with_len a r))) n ≡ Some (Exact x) → x ≡ f (a + n)
  exact_from zero a n x h = absurd cc
  exact_from (suc r) a n x h = exact_after a x (map (λ m. capped (f m)) (range_with_len (a + 1) r)) (λ k. exact_from r (a + 1) k x) (capped (f a)) refl n h

pub exact_terms_are_avoiders : ExactTermsAreAvoiders
exact_terms_are_avoiders basis last n x h = let e : 0 + n ≡ n = omega arith in subst (λ m. x ≡ avoiders basis m) e (exact_from (avoiders basis) (suc last) 0 n x h)
