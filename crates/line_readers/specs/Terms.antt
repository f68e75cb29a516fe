-- Terms as they are read.
use Rattle.std.specs.Prelude.{ℕ, Bool, true, false, not, List, [], ◌∷◌, Option, Some, None}
use Rattle.css_terms.specs.declared.term.Term.{Term}
use Rattle.css_terms.specs.declared.term.Term.TheVariants.{Exact, Big}
use Rattle.spec_lines.specs.Forms.{has_items}

-- the number, or Big where there is none
abbrev pub term_of : Option ℕ → Term
term_of None = Big
term_of (Some n) = Exact n

abbrev pub is_big : Term → Bool
is_big (Exact n) = false
is_big Big = true

-- none but the last is Big
abbrev pub is_big_last : List Term → Bool
is_big_last [] = true
is_big_last (Exact n ∷ terms) = is_big_last terms
is_big_last (Big ∷ terms) = not (has_items terms)
