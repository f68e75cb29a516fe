-- Several lists put together, so that each element tells its list.
use Rattle.std.specs.Prelude.{ℕ, suc, List, [], ◌∷◌, ◌++◌, map}

-- the elements of several lists, each with its list's number; the first list has the number k
abbrev pub numbered : {Y : Type 0} → ℕ → List (List Y) → List (ℕ × Y)
numbered k [] = []
numbered k (ys ∷ yss) = map (λ y. (k, y)) ys ++ numbered (suc k) yss
