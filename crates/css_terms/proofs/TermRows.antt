-- Worked rows of terms.
use Rattle.std.specs.Prelude.{◌≡◌, ◌^◌, ◌-◌, [], ◌∷◌, refl}
use Rattle.css_terms.specs.Terms.{capped, cut}
use Rattle.css_terms.specs.declared.term.Term.TheVariants.{Exact, Big}

below_cap : capped (2 ^ 128 - 1) ≡ Exact 340282366920938463463374607431768211455
below_cap = refl

at_cap : capped (2 ^ 128) ≡ Big
at_cap = refl

cut_after_big : cut (Exact 1 ∷ Big ∷ Big ∷ Exact 2 ∷ []) ≡ (Exact 1 ∷ Big ∷ [])
cut_after_big = refl
