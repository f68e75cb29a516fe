-- Which cells share a line with a cell and may have points.
use Rattle.std.proofs.Common.{◌≡◌, ◌<◌, ◌≤◌, ℕ, Bool, true, false, List, [], ◌∷◌, refl, ap, arith, subst}
use Rattle.std.specs.Prelude.{◌&&◌, ◌||◌, ◌==◌, not}
use Rattle.std.specs.List.{list_any}
use Rattle.std.proofs.lemmas.Bool.Decides.{Decides-eqb}
use Rattle.std.proofs.lemmas.Bool.{and_parts as and_true, and_from as both_true}
use Rattle.gridded.specs.declared.axis.Axis.{Axis}
use Rattle.gridded.specs.declared.axis.Axis.TheVariants.{Column, Row}
use Rattle.gridded.specs.declared.cell.Cell.{Cell}
use Rattle.gridded.specs.Axes.{line_of, across, is_on, cell_on, shares_line}
use Rattle.gridded.specs.Grids.{cells_in}
use Rattle.gridded.specs.Orders.{cell_eq}
use Rattle.tiling_core.specs.Tiles.{Tiles}
use Rattle.gridded.specs.Small.{point_at, rising, falling}
use Rattle.tiling_core.specs.Patterns.{forbids, active_cells, requires_list}
use Rattle.steps.specs.Steps.{sides, is_isolated}
use Rattle.steps.proofs.ListTests.{which_passes, some_passes}
use Rattle.steps.proofs.OnLine.{on_its_line, cell_on_is_in, cell_on_is_on}
use Rattle.gridded.proofs.GriddedLists.{from_IsIn-cells_in}
use Rattle.lists.specs.Members.{IsIn}
use Rattle.lists.proofs.Members.{IsIn-filter, from_IsIn-filter}

-- another cell on the line of c
abbrev pub is_other_on : Axis → Cell → Cell → Bool
is_other_on a c d = is_on a (line_of a c) d && not (cell_eq d c)

-- whether the cell at a place of the line of c is another cell and may have points
abbrev pub is_open_at : Axis → Cell → Tiles → ℕ → Bool
is_open_at a c t k = not (cell_eq (cell_on a (line_of a c) k) c) && not (forbids t (point_at (cell_on a (line_of a c) k)))

pub none_open : (a : Axis) (c : Cell) (t : Tiles) → ((k : ℕ) → k < line_of (across a) (sides t) → is_open_at a c t k ≡ false) → list_any (is_other_on a c) (active_cells t) ≡ false
none_open a c t f = go (list_any (is_other_on a c) (active_cells t)) refl
  where
    go : (b : Bool) → list_any (is_other_on a c) (active_cells t) ≡ b → list_any (is_other_on a c) (active_cells t) ≡ false
    go false e = e
    go true e =
        let w = which_passes (is_other_on a c) (active_cells t) e in
        let k = from_IsIn-filter (λ d. not (forbids t (point_at d))) (cells_in t.width t.height) w.1 in
        let u = and_true (is_on a (line_of a c) w.0) (not (cell_eq w.0 c)) w.2 in
        let p = on_its_line a (line_of a c) t w.0 k.0 u.0 in
        let open_there : is_open_at a c t p.0 ≡ true = subst (λ (d : Cell). (not (cell_eq d c) && not (forbids t (point_at d))) ≡ true) p.2 (both_true (not (cell_eq w.0 c)) (not (forbids t (point_at w.0))) u.1 k.1) in
        let closed = f p.0 p.1 in
        absurd cc

pub one_open : (a : Axis) (c : Cell) (t : Tiles) (k : ℕ) → line_of a c < line_of a (sides t) → k < line_of (across a) (sides t) → is_open_at a c t k ≡ true → list_any (is_other_on a c) (active_cells t) ≡ true
one_open a c t k b l e =
    let d = cell_on a (line_of a c) k in
    let u = and_true (not (cell_eq d c)) (not (forbids t (point_at d))) e in
    some_passes (is_other_on a c) (IsIn-filter (λ z. not (forbids t (point_at z))) (cell_on_is_in a (line_of a c) k t b l) u.1)
    (both_true (is_on a (line_of a c) d) (not (cell_eq d c)) (cell_on_is_on a (line_of a c) k) u.0)

-- no cell of the grid is on a line past it
line_is_low : (a : Axis) (t : Tiles) (d : Cell) → IsIn d (cells_in t.width t.height) → line_of a d < line_of a (sides t)
line_is_low Column t d m = (from_IsIn-cells_in t.width t.height d m).0
line_is_low Row t d m = (from_IsIn-cells_in t.width t.height d m).1

pub none_outside : (a : Axis) (c : Cell) (t : Tiles) → line_of a (sides t) ≤ line_of a c → list_any (is_other_on a c) (active_cells t) ≡ false
none_outside a c t h = go (list_any (is_other_on a c) (active_cells t)) refl
  where
    go : (b : Bool) → list_any (is_other_on a c) (active_cells t) ≡ b → list_any (is_other_on a c) (active_cells t) ≡ false
    go false e = e
    go true e =
        let w = which_passes (is_other_on a c) (active_cells t) e in
        let k = from_IsIn-filter (λ d. not (forbids t (point_at d))) (cells_in t.width t.height) w.1 in
        let same = (Decides-eqb (line_of a w.0) (line_of a c)).0 (and_true (is_on a (line_of a c) w.0) (not (cell_eq w.0 c)) w.2).0 in
        let low = line_is_low a t w.0 k.0 in
        absurd (omega arith)

-- a shared line is the column or the row
two_lines : (c : Cell) (cells : List Cell) → list_any (λ d. shares_line d c && not (cell_eq d c)) cells ≡ (list_any (is_other_on Column c) cells || list_any (is_other_on Row c) cells)
two_lines c [] = refl
two_lines c (d ∷ cells) =
    rw (two_lines c cells) (joined (d.x == c.x) (d.y == c.y) (not (cell_eq d c)) (list_any (is_other_on Column c) cells) (list_any (is_other_on Row c) cells))
  where
    joined : (p q r u v : Bool) → ((p || q) && r || (u || v)) ≡ ((p && r || u) || (q && r || v))
    joined true true true u v = refl
    joined true true false u v = refl
    joined true false true u v = refl
    joined true false false u v = refl
    joined false true true true v = refl
    joined false true true false v = refl
    joined false true false u v = refl
    joined false false r u v = refl

pub both_lines : (t : Tiles) (c : Cell) → is_isolated t c ≡ (forbids t (rising c c) && (forbids t (falling c c) && (requires_list t (point_at c ∷ []) && (not (list_any (is_other_on Column c) (active_cells t)) && not (list_any (is_other_on Row c) (active_cells t))))))
both_lines t c = rw (two_lines c (active_cells t)) (ap (λ b. forbids t (rising c c) && (forbids t (falling c c) && (requires_list t (point_at c ∷ []) && b))) (neither (list_any (is_other_on Column c) (active_cells t)) (list_any (is_other_on Row c) (active_cells t))))
  where
    neither : (p q : Bool) → not (p || q) ≡ (not p && not q)
    neither true q = refl
    neither false q = refl
