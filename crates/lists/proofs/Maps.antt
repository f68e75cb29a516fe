-- Maps, and lists of lists put together.
use Rattle.std.proofs.Common.{◌≡◌, Bool, true, false, cond, List, [], ◌∷◌, ◌++◌, refl, ap, ◌∙◌}
use Rattle.std.specs.Prelude.{map}
use Rattle.std.specs.List.{filter, flat_map}
use Rattle.std.proofs.lemmas.List.Concat.{flat_map-append}
use Rattle.lists.specs.Members.{IsIn}
use Rattle.lists.specs.Members.IsIn.{here, later}

-- two maps are one
pub map-map : {X Y Z : Type 0} (f : Y → Z) (g : X → Y) (xs : List X) → map f (map g xs) ≡ map (λ x. f (g x)) xs
map-map f g [] = refl
map-map f g (x ∷ xs) = ap (λ r. f (g x) ∷ r) (map-map f g xs)

-- functions that agree on the items map alike
pub map-agree : {X Y : Type 0} (f g : X → Y) (xs : List X) → ((x : X) → IsIn x xs → f x ≡ g x) → map f xs ≡ map g xs
map-agree f g [] h = refl
map-agree f g (x ∷ xs) h = rw (h x here, map-agree f g xs (λ y m. h y (later x m)))

-- a function that leaves each item as it is leaves the list
pub map_itself : {X : Type 0} (g : X → X) (xs : List X) → ((x : X) → IsIn x xs → g x ≡ x) → map g xs ≡ xs
map_itself g [] k = refl
map_itself g (x ∷ xs) k = let e = k x here in let h = map_itself g xs (λ y m. k y (later x m)) in λ i. e i ∷ h i

-- functions that agree on the items give the same lists together
pub flat_map-agree : {X Z : Type 0} (f g : X → List Z) (xs : List X) → ((x : X) → IsIn x xs → f x ≡ g x) → flat_map f xs ≡ flat_map g xs
flat_map-agree f g [] e = refl
flat_map-agree f g (x ∷ xs) e = rw (e x here, flat_map-agree f g xs (λ z m. e z (later x m))) refl

-- lists of lists put together, twice
pub flat_map-flat_map : {X Y Z : Type 0} (f : Y → List Z) (g : X → List Y) (xs : List X) → flat_map f (flat_map g xs) ≡ flat_map (λ x. flat_map f (g x)) xs
flat_map-flat_map f g [] = refl
flat_map-flat_map f g (x ∷ xs) = flat_map-append f (g x) (flat_map g xs) ∙ ap (λ r. flat_map f (g x) ++ r) (flat_map-flat_map f g xs)

-- a test inside is a filter before
pub flat_map-tested : {X Z : Type 0} (t : X → Bool) (f : X → List Z) (xs : List X) → flat_map (λ x. cond (t x) (f x) []) xs ≡ flat_map f (filter t xs)
flat_map-tested t f [] = refl
flat_map-tested {X} t f (x ∷ xs) = go (t x) (flat_map-tested t f xs)
  where
    go : (b : Bool) → flat_map (λ z. cond (t z) (f z) []) xs ≡ flat_map f (filter t xs) → cond b (f x) [] ++ flat_map (λ z. cond (t z) (f z) []) xs ≡ flat_map f (cond b (x ∷ filter t xs) (filter t xs))
    go true e = ap (λ r. f x ++ r) e
    go false e = e

-- images under a function that undoes another are the items
pub map_back : {X Y : Type 0} (f : X → Y) (b : Y → X) (ys : List Y) → ((y : Y) → IsIn y ys → f (b y) ≡ y) → map f (map b ys) ≡ ys
map_back f b [] e = refl
map_back f b (y ∷ ys) e = let first = e y here in let rest = map_back f b ys (λ z i. e z (later y i)) in λ i. first i ∷ rest i
