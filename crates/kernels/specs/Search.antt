-- The search for an occurrence, point by point, which keeps the letters of the points that were chosen.
use Rattle.std.specs.Prelude.{ℕ, Bool, true, false, ◌&&◌, ◌||◌, ◌==◌, List, [], ◌∷◌, ◌++◌, drop}
use Rattle.std.specs.List.{zip}
use Rattle.patterns.specs.Search.{letters_fit}

module _ {X : Type 0} (letter : X → ℕ) (same : X → X → Bool) where
  -- whether the rest p of a pattern is found in w, after points with the letters xs were matched with points with the letters ys
  abbrev pub found : List ℕ → List ℕ → List X → List X → Bool
  found xs ys w [] = true
  found xs ys [] (y ∷ p) = false
  found xs ys (x ∷ w) (y ∷ p) = same x y && letters_fit (letter x) (letter y) xs ys && found (xs ++ letter x ∷ []) (ys ++ letter y ∷ []) w p || found xs ys w (y ∷ p)

-- the search in a word from a place on
abbrev pub found_from : List ℕ → List ℕ → ℕ → List ℕ → ℕ → List ℕ → Bool
found_from xs ys from w taken p = found (λ l. l) (λ _ _. true) xs ys (drop from w) (drop taken p)

-- the search in letters with their cells, from a place on
unfoldable pub found_in_cells_from : List ℕ → List ℕ → ℕ → List ℕ → List ℕ → ℕ → List ℕ → List ℕ → Bool
found_in_cells_from xs ys from w w_cells taken p p_cells =
    found (λ (x : ℕ × ℕ). x.0) (λ x a. x.1 == a.1) xs ys (drop from (zip w w_cells)) (drop taken (zip p p_cells))
