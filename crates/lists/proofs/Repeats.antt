-- Lists in which nothing stands twice.
use Rattle.std.proofs.Common.{◌≡◌, Bool, true, false, cond, List, [], ◌∷◌, ◌++◌, sym, subst, ⊎_elim}
use Rattle.std.specs.Prelude.{map}
use Rattle.std.specs.List.{filter, flat_map}
use Rattle.lists.specs.Members.{IsIn, NoRepeats}
use Rattle.lists.specs.Members.IsIn.{here, later}
use Rattle.lists.specs.Members.NoRepeats.{no_element, one_more}
use Rattle.lists.proofs.Members.{IsIn-map, from_IsIn-map, from_IsIn-filter, from_IsIn-flat_map, IsIn-append_cases, IsIn-append_right}

-- a filter makes no repeats
pub NoRepeats-filter : {X : Type 0} (p : X → Bool) {xs : List X} → NoRepeats xs → NoRepeats (filter p xs)
NoRepeats-filter p no_element = no_element
NoRepeats-filter {X} p (one_more {x} {xs} out rest) = go (p x) (NoRepeats-filter p rest)
  where
    go : (b : Bool) → NoRepeats (filter p xs) → NoRepeats (cond b (x ∷ filter p xs) (filter p xs))
    go true r = one_more (λ h. out (from_IsIn-filter p xs h).0) r
    go false r = r

-- two lists without repeats that share nothing have none together
pub NoRepeats-append : {X : Type 0} {xs ys : List X} → NoRepeats xs → NoRepeats ys → ((x : X) → IsIn x xs → IsIn x ys → ⊥) → NoRepeats (xs ++ ys)
NoRepeats-append no_element s apart = s
NoRepeats-append (one_more {x} {xs} out rest) s apart =
    one_more (λ h. ⊎_elim out (apart x here) (IsIn-append_cases xs _ h)) (NoRepeats-append rest s (λ z a b. apart z (later x a) b))

-- a function that sends no two to one makes no repeats
pub NoRepeats-map : {X Y : Type 0} (f : X → Y) → ((x z : X) → f x ≡ f z → x ≡ z) → {xs : List X} → NoRepeats xs → NoRepeats (map f xs)
NoRepeats-map f inj no_element = no_element
NoRepeats-map {X} f inj (one_more {x} {xs} out rest) =
    one_more (λ h. let k = from_IsIn-map f xs h in out (subst (λ (z : X). IsIn z xs) (sym (inj x k.0 k.2)) k.1)) (NoRepeats-map f inj rest)

-- lists without repeats, no two of which share anything, have none together
pub NoRepeats-flat_map : {X Y : Type 0} (f : X → List Y) → ((x : X) → NoRepeats (f x)) → ((x z : X) (y : Y) → IsIn y (f x) → IsIn y (f z) → x ≡ z) → {xs : List X} → NoRepeats xs → NoRepeats (flat_map f xs)
NoRepeats-flat_map f each apart no_element = no_element
NoRepeats-flat_map {X} f each apart (one_more {x} {xs} out rest) =
    NoRepeats-append (each x) (NoRepeats-flat_map f each apart rest)
    (λ y a b. let k = from_IsIn-flat_map f xs b in out (subst (λ (z : X). IsIn z xs) (sym (apart x k.0 y a k.2)) k.1))

-- where f tells apart what g does, its values are as distinct
pub distinct_by : {X Y Z : Type 0} (f : X → Y) (g : X → Z) (xs : List X) → ((x y : X) → IsIn x xs → IsIn y xs → f x ≡ f y → g x ≡ g y) → NoRepeats (map g xs) → NoRepeats (map f xs)
distinct_by f g [] tells n = no_element
distinct_by {X} {Y} {Z} f g (x ∷ xs) tells (one_more out n) =
    one_more
    (λ h.
    let y = from_IsIn-map f xs h in
    out (subst (λ z. IsIn z (map g xs)) (sym (tells x y.0 here (later x y.1) y.2)) (IsIn-map g y.1)))
    (distinct_by f g xs (λ a b i j. tells a b (later x i) (later x j)) n)

-- where the images are distinct, the items are
pub NoRepeats-from_map : {X Y : Type 0} (f : X → Y) (xs : List X) → NoRepeats (map f xs) → NoRepeats xs
NoRepeats-from_map f [] r = no_element
NoRepeats-from_map f (x ∷ xs) (one_more out rest) = one_more (λ m. out (IsIn-map f m)) (NoRepeats-from_map f xs rest)

-- two lists without repeats together share nothing
pub apart_append : {X : Type 0} {x : X} {xs ys : List X} → IsIn x xs → NoRepeats (xs ++ ys) → IsIn x ys → ⊥
apart_append here (one_more out rest) n = out (IsIn-append_right _ n)
apart_append (later y m) (one_more out rest) n = apart_append m rest n

-- the second of two lists without repeats together has none
pub rest_append : {X : Type 0} (xs : List X) {ys : List X} → NoRepeats (xs ++ ys) → NoRepeats ys
rest_append [] r = r
rest_append (x ∷ xs) (one_more out rest) = rest_append xs rest
