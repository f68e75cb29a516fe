-- Computed terms of a basis.
use Rattle.std.specs.Prelude.{◌≡◌, [], ◌∷◌, refl}
use Rattle.patterns.specs.Occurs.{occurs}
use Rattle.basis_terms.specs.BasisTerms.{terms_of}
use Rattle.css_terms.specs.declared.term.Term.TheVariants.{Exact}

-- the avoiders of 12 and 21: the empty permutation and the point
two_words : terms_of ((0 ∷ 1 ∷ []) ∷ (1 ∷ 0 ∷ []) ∷ []) 3 ≡ (Exact 1 ∷ Exact 1 ∷ Exact 0 ∷ Exact 0 ∷ [])
unfolding occurs
two_words = refl

-- those of 132, which the Catalan numbers count
one_word : terms_of ((0 ∷ 2 ∷ 1 ∷ []) ∷ []) 4 ≡ (Exact 1 ∷ Exact 1 ∷ Exact 2 ∷ Exact 5 ∷ Exact 14 ∷ [])
unfolding occurs
one_word = refl
