-- Preimages are as long as their pattern.
use Rattle.std.proofs.Common.{◌≡◌, ◌<◌, ◌≤◌, ◌+◌, ℕ, zero, suc, Bool, List, [], ◌∷◌, ◌++◌, length, get_or, take, sym, ap, ◌∙◌, arith, append_assoc, append-nil}
use Rattle.std.specs.Prelude.{filter}
use Rattle.std.specs.List.{flat_map}
use Rattle.std.proofs.lemmas.List.{length-map, take_all, take_more}
use Rattle.std.proofs.lemmas.Grind.{flat_map-append}
use Rattle.lists.specs.Members.{IsIn}
use Rattle.lists.specs.Members.IsIn.{here, later}
use Rattle.lists.proofs.Members.{from_IsIn-filter}
use Rattle.gridded.specs.Grids.{Point, gridded_of}
use Rattle.gridded.specs.Moved.{moved}
use Rattle.gridded.specs.Orders.{gridded_eq}
use Rattle.gridded.specs.OrderLaws.{gridded_eq_decides}
use Rattle.coord_maps.specs.declared.grid_map.GridMap.{GridMap}
use Rattle.coord_maps.specs.LineMaps.{new_lines}
use Rattle.coord_maps.specs.GridMaps.{old_cell, collapse}
use Rattle.coord_maps.specs.Preimages.{preimages}
use Rattle.rule_kinds.specs.Pointeds.{PointedPattern}

-- an item at a place is in the list
pub item_in : {X : Type 0} (xs : List X) (i : ℕ) (x : X) → i < length xs → x ≡ get_or xs i x → IsIn x xs
item_in [] i x below is = absurd (omega arith)
item_in (y ∷ xs) zero x below is = rw is here
item_in (y ∷ xs) (suc i) x below is = later y (item_in xs i x (omega arith) is)

pub as_long : (m : GridMap) (g h : List Point) → IsIn h (preimages m g) → length h ≡ length g
as_long m g h k =
    let a = from_IsIn-filter (λ r. gridded_eq (collapse m r) g) (gridded_of (new_lines m.columns) (new_lines m.rows) (length g)) k in
    sym (length-map h (moved (old_cell m))) ∙ ap (λ (r : List Point). length r) ((gridded_eq_decides (collapse m h) g).0 a.1)

-- a place of a pattern is one of its preimages
pub place_within : (m : GridMap) (q : PointedPattern) (items : List (List Point)) (i : ℕ) (h : List Point) → items ≡ preimages m q.pattern → i < length items → h ≡ get_or items i h → q.index < length q.pattern → q.index < length h
place_within m q items i h e below is place = let long = as_long m q.pattern h (rw e at (item_in items i h below is)) in omega (arith, long, place)

-- all preimages are gone through
pub all_lifted : {X : Type 0} (test : X → Bool) (items xs old found : List X) (i : ℕ) → items ≡ xs → length items ≤ i → found ≡ old ++ filter test (take i items) → found ≡ old ++ filter test xs
all_lifted {X} test items xs old found i e whole f = f ∙ ap (λ (ys : List X). old ++ filter test ys) (take_all i items whole ∙ e)

-- one list more, at the end
pub joined_more : {X Y : Type 0} (f : X → List Y) (xs : List X) (i : ℕ) (x : X) (old before after : List Y) → i < length xs → x ≡ get_or xs i x → before ≡ old ++ flat_map f (take i xs) → after ≡ before ++ f x → after ≡ old ++ flat_map f (take (i + 1) xs)
joined_more {X} {Y} f xs i x old before after below is e g =
    g ∙ ap (λ (ys : List Y). ys ++ f x) e ∙ append_assoc old (flat_map f (take i xs)) (f x)
    ∙ ap (λ (ys : List Y). old ++ (flat_map f (take i xs) ++ ys)) (sym (append-nil (f x)))
    ∙ ap (λ (ys : List Y). old ++ ys) (sym (flat_map-append f (take i xs) (x ∷ [])))
    ∙ ap (λ (ys : List X). old ++ flat_map f ys) (ap (λ (z : X). take i xs ++ z ∷ []) is ∙ sym (take_more xs i x below))
