-- Words over an alphabet.
use Rattle.std.specs.Prelude.{ℕ, zero, suc, List, [], ◌∷◌, map, flat_map}

-- the words of so many letters of the alphabet, in the alphabet's order
abbrev pub words : {X : Type 0} → List X → ℕ → List (List X)
words alphabet zero = [] ∷ []
words alphabet (suc n) = flat_map (λ x. map (λ w. x ∷ w) (words alphabet n)) alphabet
