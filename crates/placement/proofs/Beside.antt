-- The points beside a cell, column by column.
use Rattle.std.proofs.Common.{◌≡◌, ◌+◌, ℕ, Bool, true, false, cond, List, [], ◌∷◌, ◌++◌, refl, sym, ap, ◌∙◌, arith, append_assoc, append-nil}
use Rattle.std.specs.Prelude.{map, filter}
use Rattle.std.specs.List.{flat_map, range_with_len}
use Rattle.std.proofs.lemmas.List.{map-append}
use Rattle.std.proofs.lemmas.List.FromFn.{filter_of_map_range_with_len_more}
use Rattle.std.proofs.lemmas.List.Elements.{filter-append}
use Rattle.std.proofs.lemmas.Grind.{flat_map-append}
use Rattle.lists.proofs.Ranges.{range_next}
use Rattle.gridded.specs.declared.cell.Cell.{Cell}
use Rattle.gridded.specs.Grids.{Point}
use Rattle.gridded.specs.Small.{point_at, rising, falling}
use Rattle.rule_kinds.specs.Children.{alone_in}
use Rattle.placement.specs.Placing.{blank, is_beside, beside_in, beside_below}

abbrev at : ℕ → ℕ → Cell
at x y = record { x = x; y = y }

one_point : (b : Bool) (c : Cell) → map point_at (cond b (c ∷ []) []) ≡ cond b (point_at c ∷ []) []
one_point true c = refl
one_point false c = refl

column_more : (m : Cell) (x y : ℕ) → beside_in m x (y + 1) ≡ beside_in m x y ++ cond (is_beside m (at x y)) (point_at (at x y) ∷ []) []
column_more m x y =
    ap (map point_at) (filter_of_map_range_with_len_more (is_beside m) (at x) 0 y y (omega arith))
    ∙ map-append point_at (filter (is_beside m) (map (at x) (range_with_len 0 y))) (cond (is_beside m (at x y)) (at x y ∷ []) [])
    ∙ ap (λ more. beside_in m x y ++ more) (one_point (is_beside m (at x y)) (at x y))

pub column_step : (m : Cell) (x y : ℕ) (old before after : List (List Point)) → before ≡ old ++ beside_in m x y → after ≡ before ++ cond (is_beside m (at x y)) (point_at (at x y) ∷ []) [] → after ≡ old ++ beside_in m x (y + 1)
column_step m x y old before after e f =
    f ∙ ap (λ found. found ++ cond (is_beside m (at x y)) (point_at (at x y) ∷ []) []) e
    ∙ append_assoc old (beside_in m x y) (cond (is_beside m (at x y)) (point_at (at x y) ∷ []) [])
    ∙ ap (λ found. old ++ found) (sym (column_more m x y))

pub columns_step : (m : Cell) (h x : ℕ) (old before after : List (List Point)) → before ≡ old ++ beside_below m h x → after ≡ before ++ beside_in m x h → after ≡ old ++ beside_below m h (x + 1)
columns_step m h x old before after e f =
    f ∙ ap (λ found. found ++ beside_in m x h) e
    ∙ append_assoc old (beside_below m h x) (beside_in m x h)
    ∙ ap (λ found. old ++ (beside_below m h x ++ found)) (sym (append-nil (beside_in m x h)))
    ∙ ap (λ found. old ++ found) (sym (flat_map-append (λ i. beside_in m i h) (range_with_len 0 x) (x ∷ [])))
    ∙ ap (λ xs. old ++ flat_map (λ i. beside_in m i h) xs) (sym (range_next x))

in_columns : (m : Cell) (h : ℕ) (xs : List ℕ) → flat_map (λ i. beside_in m i h) xs ≡ map point_at (filter (is_beside m) (flat_map (λ i. map (at i) (range_with_len 0 h)) xs))
in_columns m h [] = refl
in_columns m h (x ∷ xs) =
    ap (λ found. beside_in m x h ++ found) (in_columns m h xs)
    ∙ sym (map-append point_at (filter (is_beside m) (map (at x) (range_with_len 0 h))) (filter (is_beside m) (flat_map (λ i. map (at i) (range_with_len 0 h)) xs)))
    ∙ ap (map point_at) (sym (filter-append (is_beside m) (map (at x) (range_with_len 0 h)) (flat_map (λ i. map (at i) (range_with_len 0 h)) xs)))

pub all_alone : (m : Cell) (w h x : ℕ) (old one two after : List (List Point)) (r f : List Point) → x ≡ w → one ≡ old ++ r ∷ [] → r ≡ rising m m → two ≡ one ++ f ∷ [] → f ≡ falling m m → after ≡ two ++ beside_below m h x
    → after ≡ old ++ alone_in (blank w h) m
all_alone m w h x old one two after r f is e rises g falls k =
    k ∙ ap (λ found. found ++ beside_below m h x) (g ∙ ap (λ found. found ++ f ∷ []) e)
    ∙ append_assoc (old ++ r ∷ []) (f ∷ []) (beside_below m h x)
    ∙ append_assoc old (r ∷ []) (f ∷ beside_below m h x)
    ∙ rw (is, rises, falls) (ap (λ found. old ++ (rising m m ∷ falling m m ∷ found)) (in_columns m h (range_with_len 0 w)))
