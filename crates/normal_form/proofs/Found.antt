-- What `find` finds.
use Rattle.std.proofs.Common.{◌≡◌, Bool, true, false, cond, List, [], ◌∷◌, refl}
use Rattle.std.specs.Prelude.{Some, None, find}
use Rattle.lists.specs.Members.IsIn.{here, later}
use Rattle.lists.specs.Members.{IsIn}

pub found_passes : {X : Type 0} (p : X → Bool) (xs : List X) (x : X) → find p xs ≡ Some x → p x ≡ true
found_passes p [] x e = absurd cc
found_passes {X} p (y ∷ xs) x e = go (p y) refl (found_passes p xs x) e
  where
    go : (b : Bool) → p y ≡ b → (find p xs ≡ Some x → p x ≡ true) → cond b (Some y) (find p xs) ≡ Some x → p x ≡ true
    go true f ih g = let same : y ≡ x = cc in rw (← same) f
    go false f ih g = ih g

pub found_is_in : {X : Type 0} (p : X → Bool) (xs : List X) (x : X) → find p xs ≡ Some x → IsIn x xs
found_is_in p [] x e = absurd cc
found_is_in {X} p (y ∷ xs) x e = go (p y) (found_is_in p xs x) e
  where
    go : (b : Bool) → (find p xs ≡ Some x → IsIn x xs) → cond b (Some y) (find p xs) ≡ Some x → IsIn x (y ∷ xs)
    go true ih g = let same : x ≡ y = cc in rw same here
    go false ih g = later y (ih g)

pub none_found : {X : Type 0} (p : X → Bool) {x : X} {xs : List X} → find p xs ≡ None → IsIn x xs → p x ≡ false
none_found p {x = x} e (here {xs = xs}) = go (p x) e
  where
    go : (b : Bool) → cond b (Some x) (find p xs) ≡ None → b ≡ false
    go true f = absurd cc
    go false f = refl
none_found p {x = x} e (later {xs = xs} y m) = go (p y) (λ f. none_found p f m) e
  where
    go : (b : Bool) → (find p xs ≡ None → p x ≡ false) → cond b (Some y) (find p xs) ≡ None → p x ≡ false
    go true ih f = absurd cc
    go false ih f = ih f

pub none_to_find : {X : Type 0} (p : X → Bool) (xs : List X) → ((x : X) → IsIn x xs → p x ≡ false) → find p xs ≡ None
none_to_find p [] k = refl
none_to_find p (x ∷ xs) k = rw (k x here) (none_to_find p xs (λ y m. k y (later x m)))

pub nothing_to_find : {X : Type 0} (p : X → Bool) (xs : List X) → ((x : X) → p x ≡ false) → find p xs ≡ None
nothing_to_find p xs k = none_to_find p xs (λ x m. k x)
