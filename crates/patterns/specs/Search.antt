-- The search for an occurrence, point by point.
use Rattle.std.specs.Prelude.{ℕ, Bool, true, false, ◌&&◌, ◌||◌, List, [], ◌∷◌, ◌++◌}
use Rattle.patterns.specs.Occurs.{stands_as}

module _ {X : Type 0} (letter : X → ℕ) (same : X → X → Bool) where
  -- whether the rest p of a pattern is found in w, after the points xs were matched with ys
  abbrev pub is_found : List X → List X → List X → List X → Bool
  is_found xs ys w [] = true
  is_found xs ys [] (y ∷ p) = false
  is_found xs ys (x ∷ w) (y ∷ p) = same x y && stands_as letter same x y xs ys && is_found (xs ++ x ∷ []) (ys ++ y ∷ []) w p || is_found xs ys w (y ∷ p)

-- whether the letter x stands to the letters of one list as a does to those of the other
abbrev pub letters_fit : ℕ → ℕ → List ℕ → List ℕ → Bool
letters_fit = stands_as (λ l. l) (λ _ _. true)
