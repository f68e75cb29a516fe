-- A kind that applies to a tiling has a line of the form, in range.
use Rattle.std.proofs.Common.{◌≡◌, ◌≤◌, ℕ, suc, Bool, true, false, cond, List, [], ◌∷◌, length, map, filter, refl, sym, ap, subst, ◌∙◌, true≢false, arith, length-append}
use Rattle.std.specs.Prelude.{◌&&◌, ◌||◌, ◌==◌, not, nat_lt, nat_le, All}
use Rattle.std.specs.List.{list_all, list_any, range_with_len}
use Rattle.std.specs.declared.cmp.Ordering.TheVariants.{Equal}
use Rattle.std.specs.Ordering.{is_eq}
use Rattle.std.specs.List.Sorted.{IsStrictlySortedBy}
use Rattle.std.specs.Cmp.{first_so, second_so}
use Rattle.std.proofs.lemmas.Bool.{and_from}
use Rattle.std.proofs.lemmas.Grind.{common_steps}
use Rattle.std.proofs.lemmas.List.Concat.{length-flat_map}
use Rattle.std.proofs.lemmas.List.FromFn.{length-map-range_with_len, length-range_with_len}
use Rattle.std.proofs.lemmas.List.Sums.{sum_by-le}
use Rattle.std.proofs.lemmas.List.Kept.{IsStrictlySortedBy-filter}
use Rattle.lists.specs.Members.{IsIn}
use Rattle.lists.specs.Members.IsIn.{here, later}
use Rattle.lists.proofs.Members.{of_all, all_in}
use Rattle.lists.proofs.Tests.{all_pass, each_passes}
use Rattle.gridded.specs.declared.axis.Axis.{Axis}
use Rattle.gridded.specs.declared.axis.Axis.TheVariants as axis
use Rattle.gridded.specs.declared.cell.Cell.{Cell}
use Rattle.gridded.specs.CellSets.{is_among, is_among as has_cell, cells_that, IsCellSet}
use Rattle.gridded.specs.Grids.{Point, IsGridded, cells_in, holds}
use Rattle.gridded.specs.Orders.{cell_cmp, gridded_cmp, cells_of}
use Rattle.gridded.specs.OrderLaws.{cell_total, gridded_total, gridded_eq_decides, gridded_ties}
use Rattle.gridded.specs.Places.{fits_grid}
use Rattle.gridded.specs.Small.{point_at}
use Rattle.sequences.specs.Ascending.{in_order, exact_sequences}
use Rattle.sequences.proofs.InOrder.{in_order_ascends}
use Rattle.tiling_core.specs.Tiles.{Tiles, IsTiling, AreGridded}
use Rattle.tiling_core.specs.Patterns.{active_cells, forbids, also}
use Rattle.tiling_core.specs.Measures.{weight}
use Rattle.lists.specs.Members.{is_nil}
use Rattle.emptiness.specs.Inferable.{is_inferable, could_be_inferred, has_no_member}
use Rattle.rule_kinds.specs.declared.kind.Kind.{Kind}
use Rattle.rule_kinds.specs.declared.kind.Kind.TheVariants as kind
use Rattle.rule_kinds.specs.declared.kind.Direction.{Direction}
use Rattle.rule_kinds.specs.Children.{patterns_pointed}
use Rattle.rule_kinds.specs.Conditions.{all_of, applies, can_place, all_distinct, on_one_line, can_cut, comes_first, is_factoring, keeps_together, ascends}
use Rattle.rule_kinds.specs.Kinds.{IsKept, IsPointed, pointed_cell, axis_of}
use Rattle.rule_kinds.specs.Lines.{lines, in_grid, active_on}
use Rattle.rule_kinds.specs.Pointeds.{PointedPattern}
use Rattle.spec_lines.specs.Forms.{has_items, ascending, is_number, is_cell, is_pattern, is_patterns, is_set, is_pointed, is_kind}
use Rattle.spec_lines.specs.Ranges.{is_from_1_to, is_small, is_small_pattern, is_kind_in_range}
use Rattle.spec_lines.proofs.Ascents.{sorted_ascends, ascends_sorted}
use Rattle.spec_text.proofs.KeptLines.{pattern_kept, small_kept}

-- a kind with a line in range
pub record HasLine (k : Kind) : Type 0 where
  pub form : is_kind k ≡ true
  pub range : is_kind_in_range k ≡ true

-- ====== sets of cells ======
cells_ascend : ascending cell_cmp (cells_in 8 8) ≡ true
cells_ascend = refl

abbrev is_low : Cell → Bool
is_low c = nat_le c.x 7 && nat_le c.y 7

some_on : (test : Cell → Bool) (c : Cell) (cells : List Cell) (b : Bool) → is_cell c && is_low c ≡ true → (list_all is_cell (filter test cells) ≡ true) × (is_small (filter test cells) ≡ true)
    → (list_all is_cell (cond b (c ∷ filter test cells) (filter test cells)) ≡ true) × (is_small (cond b (c ∷ filter test cells) (filter test cells)) ≡ true)
some_on test c cells true first rest =
    (and_from (is_cell c) (list_all is_cell (filter test cells)) (first_so (is_cell c) (is_low c) first) (rest.0), and_from (is_low c) (is_small (filter test cells)) (second_so (is_cell c) (is_low c) first) (rest.1))
some_on test c cells false first rest = rest

some_of : (test : Cell → Bool) (cells : List Cell) → list_all (λ c. is_cell c && is_low c) cells ≡ true → (list_all is_cell (filter test cells) ≡ true) × (is_small (filter test cells) ≡ true)
some_of test [] h = (refl, refl)
some_of test (c ∷ cells) h =
    some_on test c cells (test c) (first_so (is_cell c && is_low c) (list_all (λ c. is_cell c && is_low c) cells) h) (some_of test cells (second_so (is_cell c && is_low c) (list_all (λ c. is_cell c && is_low c) cells) h))

cells_small : list_all (λ c. is_cell c && is_low c) (cells_in 8 8) ≡ true
cells_small = refl

record IsGoodSet (set : List Cell) : Type 0 where
  cells : list_all is_cell set && ascending cell_cmp set ≡ true
  small : is_small set ≡ true

good_set : (set : List Cell) → IsCellSet set → IsGoodSet set
unfolding cells_that
good_set set kept =
    let some = some_of (is_among set) (cells_in 8 8) cells_small in
    let sorted = IsStrictlySortedBy-filter cell_cmp (is_among set) (cells_in 8 8) (ascends_sorted cell_cmp cell_total (cells_in 8 8) cells_ascend) in
    subst IsGoodSet (sym kept) (record {
      cells = and_from (list_all is_cell (filter (is_among set) (cells_in 8 8))) (ascending cell_cmp (filter (is_among set) (cells_in 8 8))) (some.0) (sorted_ascends cell_cmp (filter (is_among set) (cells_in 8 8)) sorted);
      small = some.1;
    })

is_set_of : (set : List Cell) → has_items set ≡ true → list_all is_cell set && ascending cell_cmp set ≡ true → is_set set ≡ true
is_set_of set there h =
    and_from (has_items set && list_all is_cell set) (ascending cell_cmp set)
    (and_from (has_items set) (list_all is_cell set) there (first_so (list_all is_cell set) (ascending cell_cmp set) h)) (second_so (list_all is_cell set) (ascending cell_cmp set) h)

set_kept : (set : List Cell) → has_items set ≡ true → IsCellSet set → is_set set ≡ true
set_kept set there kept = is_set_of set there ((good_set set kept).cells)

not_nil : {X : Type 0} (xs : List X) → not (is_nil xs) ≡ true → has_items xs ≡ true
not_nil [] h = h
not_nil (x ∷ xs) h = refl

-- ====== each kind ======
insert_line : (t : Tiles) (r : List Point) → IsTiling t → IsGridded r → not (is_nil r) && fits_grid t.width t.height r ≡ true → HasLine (kind.Insert r)
insert_line t r tiling kept h =
    let inside = second_so (not (is_nil r)) (fits_grid t.width t.height r) h in
    record { form = pattern_kept t.width t.height r tiling.narrow tiling.low kept inside; range = small_kept t.width t.height r tiling.narrow tiling.low kept inside }

parts_of_place : (a b c d e f g h : Bool) → a && b && c && d && e && f && g && h ≡ true → (a ≡ true) × (b ≡ true) × (e ≡ true)
parts_of_place a b c d e f g h k =
    let five = first_so (a && b && c && d && e) f (first_so (a && b && c && d && e && f) g (first_so (a && b && c && d && e && f && g) h k)) in
    let two = first_so (a && b) c (first_so (a && b && c) d (first_so (a && b && c && d) e five)) in
    (first_so a b two, second_so a b two, second_so (a && b && c && d) e five)

pointed_line : (t : Tiles) (qs : List PointedPattern) → IsTiling t → ((q : PointedPattern) → IsIn q qs → IsPointed q) → list_all (λ g. fits_grid t.width t.height g) (patterns_pointed qs) ≡ true
    → (list_all is_pointed qs ≡ true) × (list_all (λ q. is_small_pattern q.pattern) qs ≡ true)
pointed_line t [] tiling kept inside = (refl, refl)
pointed_line t (q ∷ qs) tiling kept inside =
    let own = kept q here in
    let fits = first_so (fits_grid t.width t.height q.pattern) (list_all (λ g. fits_grid t.width t.height g) (patterns_pointed qs)) inside in
    let rest = pointed_line t qs tiling (λ p there. kept p (later q there)) (second_so (fits_grid t.width t.height q.pattern) (list_all (λ g. fits_grid t.width t.height g) (patterns_pointed qs)) inside) in
    let place = own.place in
    let below : nat_lt q.index (length q.pattern) ≡ true = grind (arith, common_steps, place) in (
      and_from (is_pointed q) (list_all is_pointed qs) (and_from (is_pattern q.pattern) (nat_lt q.index (length q.pattern)) (pattern_kept t.width t.height q.pattern tiling.narrow tiling.low own.gridded fits) below) (rest.0),
      and_from (is_small_pattern q.pattern) (list_all (λ p. is_small_pattern p.pattern) qs) (small_kept t.width t.height q.pattern tiling.narrow tiling.low own.gridded fits) (rest.1),
    )

place_line : (t : Tiles) (qs : List PointedPattern) (d : Direction) → IsTiling t → All IsPointed qs → can_place t qs d ≡ true → HasLine (kind.Place qs d)
place_line t qs d tiling kept h =
    let parts = parts_of_place (nat_le 1 (length qs)) (nat_le (length qs) 8) (nat_le t.width 6) (nat_le t.height 6) (list_all (in_grid t) (patterns_pointed qs)) (all_distinct (map pointed_cell qs)) (on_one_line (axis_of d) (map pointed_cell qs)) _ h in
    let both = pointed_line t qs tiling (λ q there. of_all IsPointed kept there) (parts.2) in
    let some = parts.0 in
    let few = parts.1 in
    let many : is_from_1_to 64 (length qs) ≡ true = grind (arith, common_steps, some, few) in
    record { form = both.0; range = and_from (is_from_1_to 64 (length qs)) (list_all (λ q. is_small_pattern q.pattern) qs) many (both.1) }

parts_of_cut : (a b c d e f g : Bool) → a && b && (c && d && e) && f && g ≡ true → (a ≡ true) × (b ≡ true) × (c ≡ true)
parts_of_cut a b c d e f g k =
    let three = first_so (a && b && (c && d && e)) f (first_so (a && b && (c && d && e) && f) g k) in
    let two = first_so (a && b) (c && d && e) three in
    (first_so a b two, second_so a b two, first_so c d (first_so (c && d) e (second_so (a && b) (c && d && e) three)))

cut_line_of : (a : Axis) (t : Tiles) (i : ℕ) (set : List Cell) → IsCellSet set → can_cut a t i set ≡ true → (is_number i && is_set set ≡ true) × (nat_le i 7 && is_small set ≡ true)
cut_line_of a t i set kept h =
    let parts = parts_of_cut (nat_le (lines a t) 7) (nat_lt i (lines a t)) (not (is_nil set)) (list_all (has_cell (active_on a i t)) set) _ (comes_first a t i set) _ h in
    let few = parts.0 in
    let below = parts.1 in
    let small : nat_le i 7 ≡ true = grind (arith, common_steps, few, below) in
    let number : is_number i ≡ true = grind (arith, common_steps, few, below) in
    (and_from (is_number i) (is_set set) number (set_kept set (not_nil set (parts.2)) kept), and_from (nat_le i 7) (is_small set) small ((good_set set kept).small))

-- as many sets as cells, at most
some_each : (sets : List (List Cell)) → list_all has_items sets ≡ true → length sets ≤ length (all_of sets)
some_each [] h = omega arith
some_each ([] ∷ sets) h = absurd (true≢false (sym h))
some_each ((c ∷ set) ∷ sets) h =
    let later = some_each sets h in
    let joined = length-append (c ∷ set) (all_of sets) in
    omega (arith, later, joined)

none_nil : (sets : List (List Cell)) → not (list_any is_nil sets) ≡ true → list_all has_items sets ≡ true
none_nil [] h = refl
none_nil ([] ∷ sets) h = absurd (true≢false (sym h))
none_nil ((c ∷ set) ∷ sets) h = let some : is_nil (c ∷ set) ≡ false = grind (arith, common_steps) in none_nil sets (sym (ap (λ b. not (b || list_any is_nil sets)) some) ∙ h)

few_filtered : (test : Cell → Bool) (cells : List Cell) → length (filter test cells) ≤ length cells
few_filtered test [] = omega arith
few_filtered test (c ∷ cells) = by_test (test c) (few_filtered test cells) where
  by_test : (b : Bool) → length (filter test cells) ≤ length cells → length (cond b (c ∷ filter test cells) (filter test cells)) ≤ suc (length cells)
  by_test true h = omega (arith, h)
  by_test false h = omega (arith, h)

few_cells : (w h : ℕ) → w ≤ 8 → h ≤ 8 → length (cells_in w h) ≤ 64
few_cells w h narrow low =
    let column : ℕ → List Cell = λ x. map (λ y. record { x = x; y = y }) (range_with_len 0 h) in
    let tall : (x : ℕ) → length (column x) ≤ 8 = λ x. let e : length (column x) ≡ h = length-map-range_with_len (λ y. record { x = x; y = y }) 0 h in omega (arith, e, low) in
    let joined = length-flat_map column (range_with_len 0 w) in
    let sum = sum_by-le (λ x. length (column x)) 8 (range_with_len 0 w) (all_in (λ x. length (column x) ≤ 8) (range_with_len 0 w) (λ x there. tall x)) in
    let wide = length-range_with_len 0 w in
    omega (arith, joined, sum, wide, narrow)

parts_of_factor : (a b c d e f : Bool) → a && ((b && c && d && e) && f) ≡ true → (a ≡ true) × (b ≡ true) × (d ≡ true)
parts_of_factor a b c d e f k =
    let shares = first_so (b && c && d && e) f (second_so a ((b && c && d && e) && f) k) in
    let three = first_so (b && c && d) e shares in
    (first_so a ((b && c && d && e) && f) k, first_so b c (first_so (b && c) d three), second_so (b && c) d three)

factor_line : (t : Tiles) (sets : List (List Cell)) → IsTiling t → All IsCellSet sets → nat_le 2 (length sets) && is_factoring t sets ≡ true → HasLine (kind.Factor sets)
factor_line t sets tiling kept h =
    let parts = parts_of_factor (nat_le 2 (length sets)) (not (list_any is_nil sets)) _ (length (all_of sets) == length (active_cells t)) _ (keeps_together t sets) h in
    let there = none_nil sets (parts.1) in
    let two = parts.0 in
    let shared = parts.2 in
    let each = some_each sets there in
    let active = few_filtered (λ c. not (forbids t (point_at c))) (cells_in t.width t.height) in
    let grid = few_cells t.width t.height tiling.narrow tiling.low in
    let many : is_from_1_to 64 (length sets) ≡ true = grind (arith, common_steps, two, shared, each, active, grid) in
    let some : has_items sets ≡ true = has_two sets two in
    record {
      form = and_from (has_items sets) (list_all is_set sets) some (all_pass is_set sets (λ set inside. set_kept set (each_passes has_items there inside) (of_all IsCellSet kept inside)));
      range = and_from (is_from_1_to 64 (length sets)) (list_all is_small sets) many (all_pass is_small sets (λ set inside. (good_set set (of_all IsCellSet kept inside)).small));
    }
  where
    has_two : (xs : List (List Cell)) → nat_le 2 (length xs) ≡ true → has_items xs ≡ true
    has_two [] e = absurd (true≢false (sym e))
    has_two (x ∷ xs) e = refl

parts_of_infer : (a b c d : Bool) → a && b && c && d ≡ true → (a ≡ true) × (b ≡ true) × (d ≡ true)
parts_of_infer a b c d k = let three = first_so (a && b && c) d k in let two = first_so (a && b) c three in (first_so a b two, second_so a b two, second_so (a && b && c) d k)

inferable_fits : (t : Tiles) (g : List Point) → is_inferable t g ≡ true → fits_grid t.width t.height g ≡ true
inferable_fits t g h =
    let could = first_so (could_be_inferred t g) (has_no_member (also t [] ((g ∷ []) ∷ []))) h in
    let four = first_so (nat_le 1 (length g) && nat_le (length g) 2 && fits_grid t.width t.height g && list_all (λ c. not (forbids t (point_at c))) (cells_of g)) (not (list_any (holds g) t.obstructions)) could in
    second_so (nat_le 1 (length g) && nat_le (length g) 2) (fits_grid t.width t.height g) (first_so (nat_le 1 (length g) && nat_le (length g) 2 && fits_grid t.width t.height g) (list_all (λ c. not (forbids t (point_at c))) (cells_of g)) four)

infer_line : (t : Tiles) (gs : List (List Point)) → IsTiling t → AreGridded gs → not (is_nil gs) && ascends gs && nat_le (weight t) 4 && list_all (is_inferable t) gs ≡ true → HasLine (kind.Infer gs)
infer_line t gs tiling kept h =
    let parts = parts_of_infer (not (is_nil gs)) (ascends gs) (nat_le (weight t) 4) (list_all (is_inferable t) gs) h in
    let exact : (a b : List Point) → gridded_cmp a b ≡ Equal → a ≡ b = λ a b e. (gridded_eq_decides a b).0 (gridded_ties a b ∙ ap is_eq e) in
    let same : in_order gridded_cmp gs ≡ gs = exact_sequences (λ a b e. (gridded_eq_decides a b).0 e) (in_order gridded_cmp gs) gs (parts.1) in
    let sorted = subst (IsStrictlySortedBy gridded_cmp) same (in_order_ascends gridded_cmp gridded_total exact gs) in
    let fits : (g : List Point) → IsIn g gs → fits_grid t.width t.height g ≡ true = λ g there. inferable_fits t g (each_passes (is_inferable t) (parts.2) there) in
    let each = all_pass is_pattern gs (λ g there. pattern_kept t.width t.height g tiling.narrow tiling.low (of_all (λ x. IsGridded x) kept there) (fits g there)) in
    record {
      form = and_from (has_items gs) (is_patterns gs) (not_nil gs (parts.0)) (and_from (list_all is_pattern gs) (ascending gridded_cmp gs) each (sorted_ascends gridded_cmp gs sorted));
      range = all_pass is_small_pattern gs (λ g there. small_kept t.width t.height g tiling.narrow tiling.low (of_all (λ x. IsGridded x) kept there) (fits g there));
    }

-- a kind that applies has a line in range
pub kind_line : (t : Tiles) (k : Kind) → IsTiling t → IsKept k → applies t k ≡ true → HasLine k
unfolding applies
kind_line t kind.Unit tiling kept h = record { form = refl; range = refl }
kind_line t kind.Point tiling kept h = record { form = refl; range = refl }
kind_line t kind.Void tiling kept h = record { form = refl; range = refl }
kind_line t (kind.Insert r) tiling kept h = insert_line t r tiling kept h
kind_line t (kind.Place qs d) tiling kept h = place_line t qs d tiling kept h
kind_line t (kind.RowCut y set) tiling kept h = let both = cut_line_of axis.Row t y set kept h in record { form = both.0; range = both.1 }
kind_line t (kind.ColumnCut x set) tiling kept h = let both = cut_line_of axis.Column t x set kept h in record { form = both.0; range = both.1 }
kind_line t (kind.Factor sets) tiling kept h = factor_line t sets tiling kept h
kind_line t (kind.Infer gs) tiling kept h = infer_line t gs tiling kept h
