-- The tiling with a line cut in two, from its parts.
use Rattle.std.proofs.Common.{◌≡◌, ◌<◌, ◌≤◌, ◌+◌, ℕ, Bool, true, false, List, [], ◌∷◌, ◌++◌, refl, sym, ap, ◌∙◌, arith}
use Rattle.std.specs.Prelude.{◌&&◌, ◌==◌, not, map, filter, nat_lt, nat_le}
use Rattle.std.proofs.lemmas.Bool.Decides.{nat_tests}
use Rattle.std.proofs.lemmas.Bool.{and_parts}
use Rattle.std.proofs.lemmas.List.{map-append}
use Rattle.std.proofs.lemmas.List.FromFn.{filter_of_map_range_with_len_more}
use Rattle.lists.proofs.Members.{from_IsIn-filter, from_IsIn-map, all_in}
use Rattle.gridded.specs.declared.axis.Axis.{Axis}
use Rattle.gridded.specs.declared.axis.Axis.TheVariants.{Column, Row}
use Rattle.gridded.specs.declared.cell.Cell.{Cell}
use Rattle.gridded.specs.Axes.{line_of, cell_on}
use Rattle.gridded.specs.CellSets.{is_among as has_cell}
use Rattle.gridded.specs.Grids.{cells_in}
use Rattle.gridded.specs.Places.{fits_grid}
use Rattle.gridded.specs.Small.{point_at}
use Rattle.gridded.proofs.GriddedLists.{from_IsIn-cells_in}
use Rattle.tiling_core.specs.Tiles.{Tiles, IsInGrid}
use Rattle.tiling_core.specs.Patterns.{active_cells, forbids}
use Rattle.coord_maps.specs.LineMaps.{new_lines}
use Rattle.rule_kinds.specs.Lines.{lines, active_on}
use Rattle.rule_kinds.specs.Children.{halved, barred_half}
use Rattle.rule_kinds.specs.Kinds.{cut_kind}
use Rattle.separation.specs.Building.{is_cut}
use Rattle.rule_kinds.specs.Conditions.{applies, can_cut, comes_first, is_proper_part, preimage_sum, most_preimages}
use Rattle.separation.specs.OnLines.{IsOfLine}
use Rattle.separation.proofs.OnLines.{cells_on, listed_of_line}

-- ---- place by place
pub cells_more : (a : Axis) (i n : ℕ) (test : Cell → Bool) → filter test (cells_on a i (n + 1)) ≡ filter test (cells_on a i n) ++ filter test (cell_on a i n ∷ [])
cells_more a i n test = filter_of_map_range_with_len_more test (cell_on a i) 0 n n (omega arith)

pub mapped_more : {Y : Type 0} (f : Cell → Y) (a : Axis) (i n : ℕ) (test : Cell → Bool) (cell : Cell) (before after : List Y) → cell ≡ cell_on a i n → before ≡ map f (filter test (cells_on a i n)) → after ≡ before ++ map f (filter test (cell ∷ [])) → after ≡ map f (filter test (cells_on a i (n + 1)))
mapped_more {Y} f a i n test cell before after at e g =
    g ∙ ap (λ ys. ys ++ map f (filter test (cell ∷ []))) e
    ∙ ap (λ c. map f (filter test (cells_on a i n)) ++ map f (filter test (c ∷ []))) at
    ∙ sym (map-append f (filter test (cells_on a i n)) (filter test (cell_on a i n ∷ [])))
    ∙ ap (map f) (sym (cells_more a i n test))

pub mapped_whole : {Y : Type 0} (f : Cell → Y) (a : Axis) (i n : ℕ) (whole : List Cell) (ys : List Y) → i < 8 → n ≡ 8 → IsOfLine a i whole → ys ≡ map f (filter (has_cell whole) (cells_on a i n)) → ys ≡ map f whole
mapped_whole f a i n whole ys l e w g = g ∙ ap (λ k. map f (filter (has_cell whole) (cells_on a i k))) e ∙ ap (map f) (listed_of_line a i whole l w)

-- ---- what the condition tells
pub few_lines : (a : Axis) (t : Tiles) (i : ℕ) (set : List Cell) → can_cut a t i set ≡ true → (lines a t ≤ 7) × (i < lines a t)
few_lines a t i set e =
    let p = and_parts (nat_le (lines a t) 7 && nat_lt i (lines a t) && is_proper_part set (active_on a i t) && comes_first a t i set) (nat_le (preimage_sum (halved a t i) t) most_preimages) e in
    let q = and_parts (nat_le (lines a t) 7 && nat_lt i (lines a t) && is_proper_part set (active_on a i t)) (comes_first a t i set) p.0 in
    let r = and_parts (nat_le (lines a t) 7 && nat_lt i (lines a t)) (is_proper_part set (active_on a i t)) q.0 in
    let s = and_parts (nat_le (lines a t) 7) (nat_lt i (lines a t)) r.0 in
    (at_most (lines a t) 7 s.0, below i (lines a t) s.1)
  where
    at_most : (m n : ℕ) → nat_le m n ≡ true → m ≤ n
    at_most m n h = grind (arith, nat_tests)

    below : (m n : ℕ) → nat_lt m n ≡ true → m < n
    below m n h = grind (arith, nat_tests)

-- ---- the barred points lie in the new grid
below_is : (m n : ℕ) → m < n → nat_lt m n ≡ true
below_is m n l = grind (arith, nat_tests)

point_fits : (w h : ℕ) (c : Cell) → c.x < w → c.y < h → fits_grid w h (point_at c) ≡ true
point_fits w h c l m = rw (below_is c.x w l, below_is c.y h m) refl

half_fits : (a : Axis) (t : Tiles) (i : ℕ) (set : List Cell) (c : Cell) → c.x < t.width → c.y < t.height → fits_grid (new_lines (halved a t i).columns) (new_lines (halved a t i).rows) (point_at (barred_half a set c)) ≡ true
half_fits a t i set c l m = go a (has_cell set c) refl
  where
    go : (x : Axis) (b : Bool) → has_cell set c ≡ b → fits_grid (new_lines (halved x t i).columns) (new_lines (halved x t i).rows) (point_at (barred_half x set c)) ≡ true
    go Column true e = rw e (point_fits _ _ (record { x = c.x + 1; y = c.y }) (omega arith) (omega arith))
    go Column false e = rw e (point_fits _ _ c (omega arith) (omega arith))
    go Row true e = rw e (point_fits _ _ (record { x = c.x; y = c.y + 1 }) (omega arith) (omega arith))
    go Row false e = rw e (point_fits _ _ c (omega arith) (omega arith))

pub halves_fit : (a : Axis) (t : Tiles) (i : ℕ) (set : List Cell) → IsInGrid (new_lines (halved a t i).columns) (new_lines (halved a t i).rows) (map (λ c. point_at (barred_half a set c)) (active_on a i t))
halves_fit a t i set =
    all_in (λ g. fits_grid (new_lines (halved a t i).columns) (new_lines (halved a t i).rows) g ≡ true) (map (λ c. point_at (barred_half a set c)) (active_on a i t))
    (λ g m. let k = from_IsIn-map (λ (c : Cell). point_at (barred_half a set c)) (active_on a i t) m in
    let active = (from_IsIn-filter (λ c. line_of a c == i) (active_cells t) k.1).0 in
    let place = from_IsIn-cells_in t.width t.height k.0 (from_IsIn-filter (λ c. not (forbids t (point_at c))) (cells_in t.width t.height) active).0 in
    rw k.2 (half_fits a t i set k.0 place.0 place.1))

-- ---- the condition of the kind
pub kind_applies : (a : Axis) (t : Tiles) (i : ℕ) (set : List Cell) → applies t (cut_kind a i set) ≡ can_cut a t i set
unfolding applies
kind_applies Column t i set = refl
kind_applies Row t i set = refl

pub kind_refused : (a : Axis) (t : Tiles) (i : ℕ) (set : List Cell) (answer : Bool) → answer ≡ can_cut a t i set → answer ≡ false → (is_cut (cut_kind a i set) && applies t (cut_kind a i set)) ≡ false
kind_refused a t i set answer e f = ap (λ b. is_cut (cut_kind a i set) && b) (kind_applies a t i set ∙ sym e ∙ f) ∙ no_more (is_cut (cut_kind a i set))
  where
    no_more : (b : Bool) → (b && false) ≡ false
    no_more true = refl
    no_more false = refl
