-- Lists that grow by what is new.
use Rattle.std.specs.Prelude.{Bool, cond, List, [], ◌∷◌, ◌++◌}
use Rattle.std.specs.List.{list_any}

module _ {X : Type 0} (eq : X → X → Bool) where
  -- the list, and x at its end where it isn't there yet
  abbrev pub with_new : List X → X → List X
  with_new xs x = cond (list_any (eq x) xs) xs (xs ++ x ∷ [])

  -- the list, and at its end those of the other list that aren't there yet, each once
  abbrev pub with_all_new : List X → List X → List X
  with_all_new xs [] = xs
  with_all_new xs (y ∷ ys) = with_all_new (with_new xs y) ys
