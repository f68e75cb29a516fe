-- Sums over lists that are filtered, mapped and put in order.
use Rattle.std.proofs.Common.{◌≡◌, ℕ, ◌<◌, ◌≤◌, Bool, true, false, cond, List, [], ◌∷◌, refl, ap, ◌∙◌, inl, inr, arith}
use Rattle.std.specs.Prelude.{◌⊎◌, map, sum_by}
use Rattle.std.specs.List.{filter}
use Rattle.std.proofs.lemmas.List.Sums.{sum_by-cons}
use Rattle.lists.specs.Members.IsIn.{here, later}
use Rattle.lists.specs.Members.{IsIn}

-- ---- what is filtered
pub filter_sum : {X : Type 0} (p : X → Bool) (f : X → ℕ) (xs : List X) → sum_by f (filter p xs) ≤ sum_by f xs
filter_sum p f [] = omega arith
filter_sum p f (x ∷ xs) = go (p x) (filter_sum p f xs)
  where
    go : (b : Bool) → sum_by f (filter p xs) ≤ sum_by f xs → sum_by f (cond b (x ∷ filter p xs) (filter p xs)) ≤ sum_by f (x ∷ xs)
    go true ih = omega (arith, ih, sum_by-cons f x xs, sum_by-cons f x (filter p xs))
    go false ih = omega (arith, ih, sum_by-cons f x xs)

pub filter_drops : {X : Type 0} (p : X → Bool) (f : X → ℕ) {x : X} {xs : List X} → IsIn x xs → p x ≡ false → 0 < f x → sum_by f (filter p xs) < sum_by f xs
filter_drops p f {x = x} (here {xs = xs}) e k = rw e (omega (arith, filter_sum p f xs, sum_by-cons f x xs))
filter_drops p f (later {xs = xs} y m) e k = go (p y) (filter_drops p f m e k)
  where
    go : (b : Bool) → sum_by f (filter p xs) < sum_by f xs → sum_by f (cond b (y ∷ filter p xs) (filter p xs)) < sum_by f (y ∷ xs)
    go true ih = omega (arith, ih, sum_by-cons f y xs, sum_by-cons f y (filter p xs))
    go false ih = omega (arith, ih, sum_by-cons f y xs)

-- the list stays, or the sum falls
abbrev pub StaysOrFalls : {X : Type 0} → (List X → ℕ) → List X → List X → Type 0
StaysOrFalls total xs ys = (ys ≡ xs) ⊎ (total ys < total xs)

pub filter_falls : {X : Type 0} (p : X → Bool) (f : X → ℕ) → ((x : X) → 0 < f x) → (xs : List X) → StaysOrFalls (sum_by f) xs (filter p xs)
filter_falls p f k [] = inl refl
filter_falls {X} p f k (x ∷ xs) = go (p x) (filter_falls p f k xs)
  where
    more : StaysOrFalls (sum_by f) xs (filter p xs) → StaysOrFalls (sum_by f) (x ∷ xs) (x ∷ filter p xs)
    more (inl e) = inl (ap (λ (ys : List X). x ∷ ys) e)
    more (inr l) = inr (omega (arith, l, sum_by-cons f x xs, sum_by-cons f x (filter p xs)))

    go : (b : Bool) → StaysOrFalls (sum_by f) xs (filter p xs) → StaysOrFalls (sum_by f) (x ∷ xs) (cond b (x ∷ filter p xs) (filter p xs))
    go true ih = more ih
    go false ih = inr (omega (arith, k x, filter_sum p f xs, sum_by-cons f x xs))

-- ---- what is mapped
pub map_sum : {X Y : Type 0} (g : X → Y) (f : Y → ℕ) (e : X → ℕ) → ((x : X) → f (g x) ≤ e x) → (xs : List X) → sum_by f (map g xs) ≤ sum_by e xs
map_sum g f e k [] = omega arith
map_sum g f e k (x ∷ xs) = omega (arith, k x, map_sum g f e k xs, sum_by-cons f (g x) (map g xs), sum_by-cons e x xs)

pub map_drops : {X Y : Type 0} (g : X → Y) (f : Y → ℕ) (e : X → ℕ) → ((x : X) → f (g x) ≤ e x) → {x : X} {xs : List X} → IsIn x xs → f (g x) < e x → sum_by f (map g xs) < sum_by e xs
map_drops g f e k {x = x} (here {xs = xs}) l = omega (arith, l, map_sum g f e k xs, sum_by-cons f (g x) (map g xs), sum_by-cons e x xs)
map_drops g f e k (later {xs = xs} y m) l = omega (arith, k y, map_drops g f e k m l, sum_by-cons f (g y) (map g xs), sum_by-cons e y xs)

pub map_falls : {X : Type 0} (g : X → X) (f : X → ℕ) → ((x : X) → (g x ≡ x) ⊎ (f (g x) < f x)) → (xs : List X) → StaysOrFalls (sum_by f) xs (map g xs)
map_falls g f k [] = inl refl
map_falls {X} g f k (x ∷ xs) = go (k x) (map_falls g f k xs)
  where
    go : (g x ≡ x) ⊎ (f (g x) < f x) → StaysOrFalls (sum_by f) xs (map g xs) → StaysOrFalls (sum_by f) (x ∷ xs) (g x ∷ map g xs)
    go (inl e) (inl h) = inl (λ i. e i ∷ h i)
    go (inl e) (inr h) = inr (omega (arith, ap f e, h, sum_by-cons f (g x) (map g xs), sum_by-cons f x xs))
    go (inr l) (inl h) = inr (omega (arith, l, ap (sum_by f) h, sum_by-cons f (g x) (map g xs), sum_by-cons f x xs))
    go (inr l) (inr h) = inr (omega (arith, l, h, sum_by-cons f (g x) (map g xs), sum_by-cons f x xs))

pub falls_then : {X : Type 0} (total : List X → ℕ) (xs ys zs : List X) → StaysOrFalls total xs ys → StaysOrFalls total ys zs → StaysOrFalls total xs zs
falls_then total xs ys zs (inl e) (inl h) = inl (h ∙ e)
falls_then total xs ys zs (inl e) (inr l) = inr (omega (arith, ap total e, l))
falls_then total xs ys zs (inr l) (inl h) = inr (omega (arith, ap total h, l))
falls_then total xs ys zs (inr l) (inr m) = inr (omega (arith, l, m))

-- ---- one item
pub in_sum : {X : Type 0} (f : X → ℕ) {x : X} {xs : List X} → IsIn x xs → f x ≤ sum_by f xs
in_sum f {x = x} (here {xs = xs}) = omega (arith, sum_by-cons f x xs)
in_sum f (later {xs = xs} y m) = omega (arith, in_sum f m, sum_by-cons f y xs)

pub map_itself : {X : Type 0} (g : X → X) (xs : List X) → ((x : X) → IsIn x xs → g x ≡ x) → map g xs ≡ xs
map_itself g [] k = refl
map_itself g (x ∷ xs) k = let e = k x here in let h = map_itself g xs (λ y m. k y (later x m)) in λ i. e i ∷ h i
