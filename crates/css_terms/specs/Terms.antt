-- Terms, capped at 2 ^ 128.
use Rattle.std.specs.Prelude.{ℕ, suc, ◌^◌, nat_lt, if◌then◌else◌, List, [], ◌∷◌, map, Option, Some, None}
use Rattle.std.specs.List.{range_with_len}
use Rattle.css_terms.specs.declared.term.Term.{Term}
use Rattle.css_terms.specs.declared.term.Term.TheVariants.{Exact, Big}

abbrev pub capped : ℕ → Term
capped n = if nat_lt n (2 ^ 128) then Exact n else Big

-- a number that fits, or Big where it doesn't
abbrev pub term_of : Option ℕ → Term
term_of (Some n) = Exact n
term_of None = Big

-- the terms as far as the first big one
abbrev pub cut : List Term → List Term
cut [] = []
cut (Exact n ∷ terms) = Exact n ∷ cut terms
cut (Big ∷ terms) = Big ∷ []

-- the capped counts for the lengths from 0 to last, as far as the first big one
abbrev pub terms_to : ℕ → (ℕ → ℕ) → List Term
terms_to last count = cut (map (λ n. capped (count n)) (range_with_len 0 (suc last)))
