-- Pointed cells, one after another.
use Rattle.std.proofs.Common.{◌≡◌, ◌<◌, ◌+◌, ◌-◌, ℕ, suc, Bool, true, false, List, ◌∷◌, length, get_or, take, drop, length-drop, sym, ap, ◌∙◌, arith, drop-cons}
use Rattle.std.specs.Prelude.{◌&&◌, not, map, nat_eq, nat_le}
use Rattle.std.specs.List.{list_all, list_any}
use Rattle.std.proofs.lemmas.List.Folds.{list_all-map}
use Rattle.std.proofs.lemmas.List.{take_all}
use Rattle.lists.proofs.Tests.{list_any-map}
use Rattle.gridded.specs.declared.axis.Axis.{Axis}
use Rattle.gridded.specs.declared.cell.Cell.{Cell}
use Rattle.gridded.specs.Axes.{line_of}
use Rattle.gridded.specs.Orders.{cell_eq}
use Rattle.rule_kinds.specs.Kinds.{pointed_cell}
use Rattle.rule_kinds.specs.Pointeds.{PointedPattern}
use Rattle.rule_kinds.specs.Conditions.{can_place, all_distinct, on_one_line, preimage_sum, most_preimages}
use Rattle.tiling_core.specs.Tiles.{Tiles}
use Rattle.rule_kinds.specs.Lines.{in_grid}
use Rattle.rule_kinds.specs.Children.{around}
use Rattle.rule_kinds.specs.Kinds.{axis_of}
use Rattle.rule_kinds.specs.declared.kind.Direction.{Direction}
use Rattle.placement.specs.Placing.{is_small, can_place_along}

abbrev points_into : List PointedPattern → Cell → Bool
points_into qs c = list_any (λ q. cell_eq c (pointed_cell q)) qs

-- the items from a place on are distinct where the first of them is none of the later ones, and these are distinct
distinct_from : (qs : List PointedPattern) (i : ℕ) (q : PointedPattern) → i < length qs → q ≡ get_or qs i q
    → all_distinct (map pointed_cell (drop i qs)) ≡ (not (points_into (drop (i + 1) qs) (pointed_cell q)) && all_distinct (map pointed_cell (drop (i + 1) qs)))
distinct_from qs i q below is =
    let next : i + 1 ≡ suc i = omega arith in
    let whole : drop i qs ≡ q ∷ drop (i + 1) qs = rw next (drop-cons qs i q below ∙ ap (λ (p : PointedPattern). p ∷ drop (suc i) qs) (sym is)) in
    ap (λ (rest : List PointedPattern). all_distinct (map pointed_cell rest)) whole
    ∙ ap (λ b. not b && all_distinct (map pointed_cell (drop (i + 1) qs))) (list_any-map (cell_eq (pointed_cell q)) pointed_cell (drop (i + 1) qs))

all_later : (qs : List PointedPattern) (n : ℕ) → take (length qs - n) (drop n qs) ≡ drop n qs
all_later qs n = let long = length-drop n qs in take_all (length qs - n) (drop n qs) (omega (arith, long))

pub repeated : (qs : List PointedPattern) (i : ℕ) (q : PointedPattern) (c : Cell) (found : Bool) → i < length qs → q ≡ get_or qs i q → c ≡ pointed_cell q → all_distinct (map pointed_cell (drop i qs)) ≡ all_distinct (map pointed_cell qs)
    → found ≡ points_into (take (length qs - (i + 1)) (drop (i + 1) qs)) c → found ≡ true → false ≡ all_distinct (map pointed_cell qs)
repeated qs i q c found below is at e f t =
    let g : points_into (drop (i + 1) qs) (pointed_cell q) ≡ true = ap (points_into (drop (i + 1) qs)) (sym at) ∙ ap (λ later. points_into later c) (sym (all_later qs (i + 1))) ∙ sym f ∙ t in
    sym (ap (λ b. not b && all_distinct (map pointed_cell (drop (i + 1) qs))) g) ∙ sym (distinct_from qs i q below is) ∙ e

pub not_repeated : (qs : List PointedPattern) (i : ℕ) (q : PointedPattern) (c : Cell) (found : Bool) → i < length qs → q ≡ get_or qs i q → c ≡ pointed_cell q → all_distinct (map pointed_cell (drop i qs)) ≡ all_distinct (map pointed_cell qs)
    → found ≡ points_into (take (length qs - (i + 1)) (drop (i + 1) qs)) c → found ≡ false → all_distinct (map pointed_cell (drop (i + 1) qs)) ≡ all_distinct (map pointed_cell qs)
not_repeated qs i q c found below is at e f t =
    let g : points_into (drop (i + 1) qs) (pointed_cell q) ≡ false = ap (points_into (drop (i + 1) qs)) (sym at) ∙ ap (λ later. points_into later c) (sym (all_later qs (i + 1))) ∙ sym f ∙ t in
    sym (ap (λ b. not b && all_distinct (map pointed_cell (drop (i + 1) qs))) g) ∙ sym (distinct_from qs i q below is) ∙ e

-- a line that the later ones share with the first
pub one_line : (a : Axis) (q : PointedPattern) (rest qs : List PointedPattern) (c : Cell) (line : ℕ) (result : Bool) → qs ≡ q ∷ rest → c ≡ pointed_cell q → line ≡ line_of a c
    → result ≡ list_all (λ r. nat_eq line (line_of a (pointed_cell r))) rest → result ≡ on_one_line a (map pointed_cell qs)
one_line a q rest qs c line result is at l e =
    rw (l ∙ ap (line_of a) at) at e
    ∙ sym (list_all-map (λ d. nat_eq (line_of a (pointed_cell q)) (line_of a d)) pointed_cell rest)
    ∙ ap (λ (all : List PointedPattern). on_one_line a (map pointed_cell all)) (sym is)

-- the condition by the axis alone
pub along : (t : Tiles) (qs : List PointedPattern) (d : Direction) → can_place t qs d ≡ can_place_along t qs (axis_of d)
along t qs d =
    ap (λ b. is_small t qs && b && all_distinct (map pointed_cell qs) && on_one_line (axis_of d) (map pointed_cell qs) && list_all (λ q. nat_le (preimage_sum (around t (pointed_cell q)) t) most_preimages) qs)
    (list_all-map (in_grid t) (λ (q : PointedPattern). q.pattern) qs)
