-- The search for a gridded pattern, with the letters that were chosen.
use Rattle.std.specs.Prelude.{ℕ, Bool, true, false, ◌&&◌, ◌||◌, List, [], ◌∷◌, ◌++◌}
use Rattle.patterns.specs.Search.{letters_fit}
use Rattle.gridded.specs.Grids.{Point, same_cell}

-- whether the rest p of a pattern is found in w, after points with the letters xs were matched with points with the letters ys
abbrev pub found : List ℕ → List ℕ → List Point → List Point → Bool
found xs ys w [] = true
found xs ys [] (y ∷ p) = false
found xs ys (x ∷ w) (y ∷ p) = same_cell x y && letters_fit x.letter y.letter xs ys && found (xs ++ x.letter ∷ []) (ys ++ y.letter ∷ []) w p || found xs ys w (y ∷ p)
