-- What is in a list, and that nothing is in it twice.
use Rattle.std.specs.Prelude.{Bool, ◌==◌, List, [], ◌∷◌, length}

-- x is in the list
pub data IsIn {X : Type 0} (x : X) : List X → Type 0 where
  here : {xs : List X} → IsIn x (x ∷ xs)
  later : {xs : List X} (y : X) → IsIn x xs → IsIn x (y ∷ xs)

-- no element stands twice
pub data NoRepeats {X : Type 0} : List X → Type 0 where
  no_element : NoRepeats []
  one_more : {x : X} {xs : List X} → (IsIn x xs → ⊥) → NoRepeats xs → NoRepeats (x ∷ xs)

-- whether nothing is in the list
abbrev pub is_nil : {X : Type 0} → List X → Bool
is_nil xs = length xs == 0
