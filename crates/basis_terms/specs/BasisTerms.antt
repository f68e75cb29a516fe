-- The terms of a basis.
use Rattle.std.specs.Prelude.{◌≡◌, ℕ, List, slice_get, Some}
use Rattle.patterns.specs.Occurs.{avoiders}
use Rattle.css_terms.specs.Terms.{terms_to}
use Rattle.css_terms.specs.declared.term.Term.{Term}
use Rattle.css_terms.specs.declared.term.Term.TheVariants.{Exact}

-- the capped numbers of the permutations that avoid the basis, of the lengths from 0 to last, as far as the first big one
abbrev pub terms_of : List (List ℕ) → ℕ → List Term
terms_of basis last = terms_to last (avoiders basis)

-- an exact term is the number of avoiders of its length
abbrev pub ExactTermsAreAvoiders : Type 0
ExactTermsAreAvoiders = (basis : List (List ℕ)) (last n x : ℕ) → slice_get (terms_of basis last) n ≡ Some (Exact x) → x ≡ avoiders basis n
