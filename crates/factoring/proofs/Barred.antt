-- The points outside a set, column by column.
use Rattle.std.proofs.Common.{◌≡◌, ◌+◌, ℕ, Bool, true, false, cond, List, [], ◌∷◌, ◌++◌, refl, sym, ap, ◌∙◌, arith, append_assoc, append-nil}
use Rattle.std.specs.Prelude.{not, map, filter}
use Rattle.std.specs.List.{flat_map, range_with_len}
use Rattle.std.proofs.lemmas.List.{map-append}
use Rattle.std.proofs.lemmas.List.FromFn.{filter_of_map_range_with_len_more}
use Rattle.std.proofs.lemmas.List.Elements.{filter-append}
use Rattle.std.proofs.lemmas.Grind.{flat_map-append}
use Rattle.gridded.specs.declared.cell.Cell.{Cell}
use Rattle.gridded.specs.Grids.{Point}
use Rattle.gridded.specs.CellSets.{is_among}
use Rattle.gridded.specs.Small.{point_at}
use Rattle.tiling_core.specs.Tiles.{Tiles}
use Rattle.rule_kinds.specs.Lines.{cells_of_grid}
use Rattle.factoring.specs.Outside.{barred_at, barred_in}
use Rattle.lists.proofs.Ranges.{range_next}

abbrev at : ℕ → ℕ → Cell
at x y = record { x = x; y = y }

abbrev outside : List Cell → Cell → Bool
outside set c = not (is_among set c)

one_point : (b : Bool) (c : Cell) → map point_at (cond b (c ∷ []) []) ≡ cond b (point_at c ∷ []) []
one_point true c = refl
one_point false c = refl

column_more : (set : List Cell) (x y : ℕ) → barred_in set x (y + 1) ≡ barred_in set x y ++ barred_at set (at x y)
column_more set x y =
    ap (map point_at) (filter_of_map_range_with_len_more (outside set) (at x) 0 y y (omega arith))
    ∙ map-append point_at (filter (outside set) (map (at x) (range_with_len 0 y))) (cond (outside set (at x y)) (at x y ∷ []) [])
    ∙ ap (λ more. barred_in set x y ++ more) (one_point (outside set (at x y)) (at x y))

pub column_step : (set : List Cell) (x y : ℕ) (old before after : List (List Point)) → before ≡ old ++ barred_in set x y → after ≡ before ++ barred_at set (at x y) → after ≡ old ++ barred_in set x (y + 1)
column_step set x y old before after e f =
    f ∙ ap (λ points. points ++ barred_at set (at x y)) e
    ∙ append_assoc old (barred_in set x y) (barred_at set (at x y))
    ∙ ap (λ points. old ++ points) (sym (column_more set x y))

-- the points outside the set in the columns below one
abbrev pub barred_below : List Cell → ℕ → ℕ → List (List Point)
barred_below set h x = flat_map (λ i. barred_in set i h) (range_with_len 0 x)

pub columns_step : (set : List Cell) (h x : ℕ) (before after : List (List Point)) → before ≡ barred_below set h x → after ≡ before ++ barred_in set x h → after ≡ barred_below set h (x + 1)
columns_step set h x before after e f =
    f ∙ ap (λ points. points ++ barred_in set x h) e
    ∙ ap (λ points. barred_below set h x ++ points) (sym (append-nil (barred_in set x h)))
    ∙ sym (flat_map-append (λ i. barred_in set i h) (range_with_len 0 x) (x ∷ []))
    ∙ ap (flat_map (λ i. barred_in set i h)) (sym (range_next x))

in_columns : (test : Cell → Bool) (h : ℕ) (xs : List ℕ) → flat_map (λ i. map point_at (filter test (map (at i) (range_with_len 0 h)))) xs ≡ map point_at (filter test (flat_map (λ i. map (at i) (range_with_len 0 h)) xs))
in_columns test h [] = refl
in_columns test h (x ∷ xs) =
    ap (λ points. map point_at (filter test (map (at x) (range_with_len 0 h))) ++ points) (in_columns test h xs)
    ∙ sym (map-append point_at (filter test (map (at x) (range_with_len 0 h))) (filter test (flat_map (λ i. map (at i) (range_with_len 0 h)) xs)))
    ∙ ap (map point_at) (sym (filter-append test (map (at x) (range_with_len 0 h)) (flat_map (λ i. map (at i) (range_with_len 0 h)) xs)))

pub all_barred : (set : List Cell) (t : Tiles) → barred_below set t.height t.width ≡ map point_at (filter (λ c. not (is_among set c)) (cells_of_grid t))
all_barred set t = in_columns (outside set) t.height (range_with_len 0 t.width)
