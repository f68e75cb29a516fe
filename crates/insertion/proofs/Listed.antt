-- The insertions column by column are all of them.
use Rattle.std.proofs.Common.{◌≡◌, ◌≤◌, ◌+◌, ℕ, Bool, true, false, cond, List, [], ◌∷◌, ◌++◌, refl, sym, ap, ◌∙◌, arith, append_assoc, append-nil}
use Rattle.std.specs.Prelude.{◌&&◌, not, map, filter}
use Rattle.std.specs.List.{flat_map, range_with_len}
use Rattle.std.proofs.lemmas.List.{map-append}
use Rattle.std.proofs.lemmas.List.FromFn.{filter_of_map_range_with_len_more}
use Rattle.std.proofs.lemmas.List.Elements.{filter-append}
use Rattle.std.proofs.lemmas.Grind.{flat_map-append}
use Rattle.gridded.specs.declared.cell.Cell.{Cell}
use Rattle.gridded.specs.Grids.{cells_in}
use Rattle.gridded.specs.CellSets.{cells_that, is_among}
use Rattle.gridded.proofs.CellSets.{agree_on_cells, is_among_decides, is_among-cells_that}
use Rattle.gridded.proofs.GriddedLists.{from_IsIn-cells_in}
use Rattle.tiling_core.specs.Tiles.{Tiles}
use Rattle.gridded.specs.Small.{point_at}
use Rattle.tiling_core.specs.Patterns.{forbids, active_cells, requires_list}
use Rattle.rule_kinds.specs.declared.kind.Kind.{Kind}
use Rattle.rule_kinds.specs.Choices.{insertions}
use Rattle.insertion.specs.Open.{is_open, insert_at, insertion_at, insertions_in}
use Rattle.lists.proofs.Ranges.{range_next}
use Rattle.lists.specs.Members.{IsIn}
use Rattle.lists.proofs.Tests.{same_test}
use Rattle.lists.proofs.Members.{IsIn-filter, from_IsIn-filter}

abbrev at : ℕ → ℕ → Cell
at x y = record { x = x; y = y }

insert_one : (b : Bool) (c : Cell) → map insert_at (cond b (c ∷ []) []) ≡ cond b (insert_at c ∷ []) []
insert_one true c = refl
insert_one false c = refl

column_more : (active required : List Cell) (x y : ℕ) → insertions_in active required x (y + 1) ≡ insertions_in active required x y ++ insertion_at active required (at x y)
column_more active required x y =
    ap (map insert_at) (filter_of_map_range_with_len_more (is_open active required) (at x) 0 y y (omega arith))
    ∙ map-append insert_at (filter (is_open active required) (map (at x) (range_with_len 0 y))) (cond (is_open active required (at x y)) (at x y ∷ []) [])
    ∙ ap (λ more. insertions_in active required x y ++ more) (insert_one (is_open active required (at x y)) (at x y))

pub column_step : (active required : List Cell) (x y : ℕ) (old before after : List Kind) → before ≡ old ++ insertions_in active required x y → after ≡ before ++ insertion_at active required (at x y) → after ≡ old ++ insertions_in active required x (y + 1)
column_step active required x y old before after e f =
    f ∙ ap (λ kinds. kinds ++ insertion_at active required (at x y)) e
    ∙ append_assoc old (insertions_in active required x y) (insertion_at active required (at x y))
    ∙ ap (λ kinds. old ++ kinds) (sym (column_more active required x y))

-- the insertions at the columns below one
abbrev pub insertions_below : List Cell → List Cell → ℕ → ℕ → List Kind
insertions_below active required h x = flat_map (λ i. insertions_in active required i h) (range_with_len 0 x)

pub columns_step : (active required : List Cell) (h x : ℕ) (before after : List Kind) → before ≡ insertions_below active required h x → after ≡ before ++ insertions_in active required x h → after ≡ insertions_below active required h (x + 1)
columns_step active required h x before after e f =
    f ∙ ap (λ kinds. kinds ++ insertions_in active required x h) e
    ∙ ap (λ kinds. insertions_below active required h x ++ kinds) (sym (append-nil (insertions_in active required x h)))
    ∙ sym (flat_map-append (λ i. insertions_in active required i h) (range_with_len 0 x) (x ∷ []))
    ∙ ap (flat_map (λ i. insertions_in active required i h)) (sym (range_next x))

in_columns : (test : Cell → Bool) (h : ℕ) (xs : List ℕ) → flat_map (λ i. map insert_at (filter test (map (at i) (range_with_len 0 h)))) xs ≡ map insert_at (filter test (flat_map (λ i. map (at i) (range_with_len 0 h)) xs))
in_columns test h [] = refl
in_columns test h (x ∷ xs) =
    ap (λ kinds. map insert_at (filter test (map (at x) (range_with_len 0 h))) ++ kinds) (in_columns test h xs)
    ∙ sym (map-append insert_at (filter test (map (at x) (range_with_len 0 h))) (filter test (flat_map (λ i. map (at i) (range_with_len 0 h)) xs)))
    ∙ ap (map insert_at) (sym (filter-append test (map (at x) (range_with_len 0 h)) (flat_map (λ i. map (at i) (range_with_len 0 h)) xs)))

twice_filtered : (p q : Cell → Bool) (cells : List Cell) → filter q (filter p cells) ≡ filter (λ c. p c && q c) cells
twice_filtered p q [] = refl
twice_filtered p q (c ∷ cells) = go (p c) (twice_filtered p q cells)
  where
    go : (b : Bool) → filter q (filter p cells) ≡ filter (λ d. p d && q d) cells → filter q (cond b (c ∷ filter p cells) (filter p cells)) ≡ cond (b && q c) (c ∷ filter (λ d. p d && q d) cells) (filter (λ d. p d && q d) cells)
    go true e = ap (λ rest. cond (q c) (c ∷ rest) rest) e
    go false e = e

among_active : (t : Tiles) (c : Cell) → IsIn c (cells_in t.width t.height) → is_among (active_cells t) c ≡ not (forbids t (point_at c))
among_active t c m =
    let d = is_among_decides (active_cells t) c in
    same_test (is_among (active_cells t) c) (not (forbids t (point_at c)))
    (λ e. (from_IsIn-filter (λ x. not (forbids t (point_at x))) (cells_in t.width t.height) (d.0 e)).1)
    (λ e. d.1 (IsIn-filter (λ x. not (forbids t (point_at x))) m e))

pub all_insertions : (t : Tiles) (active required : List Cell) → t.width ≤ 8 → t.height ≤ 8 → active ≡ active_cells t → required ≡ cells_that (λ c. requires_list t (point_at c ∷ [])) → insertions_below active required t.height t.width ≡ insertions t
all_insertions t active required k l e f =
    in_columns (is_open active required) t.height (range_with_len 0 t.width)
    ∙ ap (map insert_at) (agree_on_cells (is_open active required) (λ c. not (forbids t (point_at c)) && not (requires_list t (point_at c ∷ []))) (cells_in t.width t.height) same
    ∙ sym (twice_filtered (λ c. not (forbids t (point_at c))) (λ c. not (requires_list t (point_at c ∷ []))) (cells_in t.width t.height)))
  where
    same : (c : Cell) → IsIn c (cells_in t.width t.height) → is_open active required c ≡ (not (forbids t (point_at c)) && not (requires_list t (point_at c ∷ [])))
    same c m =
        let a : is_among active c ≡ not (forbids t (point_at c)) = ap (λ cells. is_among cells c) e ∙ among_active t c m in
        let place = from_IsIn-cells_in t.width t.height c m in
        let b : is_among required c ≡ requires_list t (point_at c ∷ []) = ap (λ cells. is_among cells c) f ∙ is_among-cells_that (λ x. requires_list t (point_at x ∷ [])) c (omega (arith, place.0), omega (arith, place.1)) in
        rw (a, b) refl
