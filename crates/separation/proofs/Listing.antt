-- The least cuts, line by line.
use Rattle.std.proofs.Common.{◌≡◌, ◌<◌, ◌≤◌, ◌+◌, ℕ, zero, suc, Bool, true, false, cond, List, [], ◌∷◌, ◌++◌, length, refl, sym, ap, ◌∙◌, subst, arith}
use Rattle.std.specs.Prelude.{◌&&◌, ◌||◌, ◌==◌, not, map, filter, flat_map, nat_lt, nat_le, if◌then◌else◌}
use Rattle.std.specs.List.{list_all, list_any, range_with_len}
use Rattle.std.proofs.lemmas.Bool.Decides.{nat_tests}
use Rattle.std.proofs.Math.Bool.{and-true, and-false}
use Rattle.std.proofs.lemmas.List.{map-append}
use Rattle.std.proofs.lemmas.Grind.{flat_map-append}
use Rattle.std.proofs.Common.{append-nil}
use Rattle.lists.specs.Members.{IsIn, is_nil}
use Rattle.lists.proofs.Members.{from_IsIn-map, from_IsIn-filter, from_IsIn-flat_map, all_in}
use Rattle.lists.proofs.Filters.{filter-map, filter-agree, filter-none, filter-flat_map}
use Rattle.lists.proofs.Ranges.{range_next}
use Rattle.lists.proofs.Tests.{same_test, each_passes, all_pass}
use Rattle.gridded.specs.declared.axis.Axis.{Axis}
use Rattle.gridded.specs.declared.cell.Cell.{Cell}
use Rattle.gridded.specs.Axes.{is_on, cell_on}
use Rattle.gridded.specs.Orders.{cell_eq}
use Rattle.gridded.specs.CellSets.{is_among as has_cell}
use Rattle.gridded.specs.CellSetOrder.{set_eq, set_eq_decides}
use Rattle.gridded.proofs.CellSets.{in_set, has_in}
use Rattle.gridded.proofs.Holding.{is_true}
use Rattle.tiling_core.specs.Tiles.{Tiles}
use Rattle.tiling_core.proofs.GridCells.{same_set}
use Rattle.rule_kinds.specs.declared.kind.Kind.{Kind}
use Rattle.rule_kinds.specs.Kinds.{cut_kind}
use Rattle.rule_kinds.specs.Lines.{lines, active_on, numbers_below}
use Rattle.rule_kinds.specs.Children.{halved}
use Rattle.rule_kinds.specs.Conditions.{applies, can_cut, is_proper_part, preimage_sum, most_preimages}
use Rattle.rule_kinds.specs.Choices.{is_bound, grown, grown_times, closure, least_cuts, cuts_along}
use Rattle.rule_kinds.proofs.Closures.{closure_is_least}
use Rattle.cut_law.specs.CutLaw.{ClosuresComeFirst}
use Rattle.separation.specs.OnLines.{IsOfLine}
use Rattle.separation.specs.LeastCuts.{IsLeastCut, AreLeastCuts, leaves_out, proper_once, with_proper, with_closure, where_they_fit, cuts_of_line}
use Rattle.separation.proofs.OnLines.{cells_on, of_line_filter, of_line_that, one_of_line, cell_in_line, listed_of_line}
use Rattle.separation.proofs.Once.{passing_more, from_once}
use Rattle.separation.proofs.Halves.{cells_more, kind_applies}

-- ---- the closures of a line's cells that leave one out
abbrev pub closures_at : (Cell → Cell → Bool) → List Cell → Axis → ℕ → ℕ → List (List Cell)
closures_at link whole a i n = map (closure link whole) (filter (has_cell whole) (cells_on a i n))

pub next_closure : (link : Cell → Cell → Bool) (whole : List Cell) (a : Axis) (i n : ℕ) (cell : Cell) (before after : List (List Cell)) → cell ≡ cell_on a i n → before ≡ proper_once whole (closures_at link whole a i n) → after ≡ with_closure link whole before cell → after ≡ proper_once whole (closures_at link whole a i (n + 1))
next_closure link whole a i n cell before after at e f =
    f ∙ (λ j. with_closure link whole (e j) (at j)) ∙ go (has_cell whole (cell_on a i n)) refl
  where
    far : List (List Cell)
    far = closures_at link whole a i n

    more : closures_at link whole a i (n + 1) ≡ far ++ map (closure link whole) (filter (has_cell whole) (cell_on a i n ∷ []))
    more = ap (map (closure link whole)) (cells_more a i n (has_cell whole)) ∙ map-append (closure link whole) (filter (has_cell whole) (cells_on a i n)) (filter (has_cell whole) (cell_on a i n ∷ []))

    go : (b : Bool) → has_cell whole (cell_on a i n) ≡ b → (if b then with_proper whole (proper_once whole far) (closure link whole (cell_on a i n)) else proper_once whole far) ≡ proper_once whole (closures_at link whole a i (n + 1))
    go true g =
        let one : filter (has_cell whole) (cell_on a i n ∷ []) ≡ cell_on a i n ∷ [] = rw g refl in
        sym (ap (proper_once whole) (more ∙ ap (λ cells. far ++ map (closure link whole) cells) one) ∙ passing_more set_eq set_eq_decides (leaves_out whole) far (closure link whole (cell_on a i n)))
    go false g =
        let none : filter (has_cell whole) (cell_on a i n ∷ []) ≡ [] = rw g refl in
        sym (ap (proper_once whole) (more ∙ ap (λ cells. far ++ map (closure link whole) cells) none ∙ append-nil far))

pub all_closures : (link : Cell → Cell → Bool) (whole : List Cell) (a : Axis) (i n : ℕ) (sets : List (List Cell)) → i < 8 → n ≡ 8 → IsOfLine a i whole → sets ≡ proper_once whole (closures_at link whole a i n) → sets ≡ proper_once whole (map (closure link whole) whole)
all_closures link whole a i n sets l e w f =
    f ∙ ap (λ k. proper_once whole (closures_at link whole a i k)) e ∙ ap (λ cells. proper_once whole (map (closure link whole) cells)) (listed_of_line a i whole l w)

-- ---- a closure is of the line, and a proper part of it where it leaves a cell out
module _ (a : Axis) (i : ℕ) (link : Cell → Cell → Bool) (whole : List Cell) (w : IsOfLine a i whole) where
  grown_of_line : (set : List Cell) → IsOfLine a i (grown link whole set)
  grown_of_line set = of_line_that a i (λ d. has_cell whole d && list_any (λ c. cell_eq c d || link c d) set) (grown link whole set) (of_line_filter a i whole (λ d. list_any (λ c. cell_eq c d || link c d) set) w)

  rounds_of_line : (n : ℕ) (set : List Cell) → IsOfLine a i set → IsOfLine a i (grown_times n link whole set)
  rounds_of_line zero set s = s
  rounds_of_line (suc n) set s = rounds_of_line n (grown link whole set) (grown_of_line set)

  pub closure_of_line : (c : Cell) → IsIn c whole → IsOfLine a i (closure link whole c)
  closure_of_line c m = let k = cell_in_line a i whole c w m in rounds_of_line (length whole) (c ∷ []) (one_of_line a i c k.0 k.1)

  whole_or_not : (set : List Cell) → IsOfLine a i set → list_all (has_cell whole) set ≡ true → list_all (has_cell set) whole ≡ set_eq set whole
  whole_or_not set s e = same_test (list_all (has_cell set) whole) (set_eq set whole)
      (λ f. (set_eq_decides set whole).1 (s ∙ same_set (λ c. is_on a i c && has_cell set c) (λ c. is_on a i c && has_cell whole c) (λ c m. ap (λ b. is_on a i c && b)
      (same_test (has_cell set c) (has_cell whole c) (λ g. each_passes (has_cell whole) e (in_set set c g)) (λ g. each_passes (has_cell set) f (in_set whole c g)))) ∙ sym w))
      (λ f. all_pass (has_cell set) whole (λ c m. has_in set c (subst (λ z. IsIn c z) (sym ((set_eq_decides set whole).0 f)) m)))

  some_cell : (set : List Cell) (c : Cell) → has_cell set c ≡ true → not (is_nil set) ≡ true
  some_cell [] c e = absurd cc
  some_cell (d ∷ set) c e = one_more (length set)
    where
      one_more : (n : ℕ) → not (suc n == 0) ≡ true
      one_more n = grind (arith, nat_tests)

  pub closure_proper : (c : Cell) → IsIn c whole → is_proper_part (closure link whole c) whole ≡ leaves_out whole (closure link whole c)
  closure_proper c m =
      let k = closure_is_least link whole c m in
      let within = is_true (list_all (has_cell whole) (closure link whole c)) k.within in
      let begins = is_true (has_cell (closure link whole c) c) k.begins in
      rw (some_cell (closure link whole c) c begins, within) (ap not (whole_or_not (closure link whole c) (closure_of_line c m) within))

-- ---- the cuts of a line
module _ (a : Axis) (t : Tiles) (i : ℕ) (law : ClosuresComeFirst) (few : lines a t ≤ 7) (inside : i < lines a t) (w : IsOfLine a i (active_on a i t)) where
  abbrev whole : List Cell
  whole = active_on a i t

  abbrev fits : Bool
  fits = nat_le (preimage_sum (halved a t i) t) most_preimages

  few_is : nat_le (lines a t) 7 ≡ true
  few_is = grind (arith, nat_tests, few)

  inside_is : nat_lt i (lines a t) ≡ true
  inside_is = grind (arith, nat_tests, inside)

  cut_of_closure : (c : Cell) → IsIn c whole → can_cut a t i (closure (is_bound a t) whole c) ≡ (leaves_out whole (closure (is_bound a t) whole c) && fits)
  cut_of_closure c m =
      rw (few_is, inside_is, closure_proper a i (is_bound a t) whole w c m, (law a t i c m).0)
      (ap (λ b. b && fits) (and-true (leaves_out whole (closure (is_bound a t) whole c))))

  tested : (set : List Cell) → IsIn set (least_cuts a t i) → applies t (cut_kind a i set) ≡ (leaves_out whole set && fits)
  tested set m =
      let k = from_IsIn-map (closure (is_bound a t) whole) whole (from_once set_eq (map (closure (is_bound a t) whole) whole) set m) in
      kind_applies a t i set ∙ rw k.2 (cut_of_closure k.0 k.1)

  with_room : (b : Bool) (sets : List (List Cell)) → filter (λ set. leaves_out whole set && b) sets ≡ cond b (filter (leaves_out whole) sets) []
  with_room true sets = filter-agree (λ set. leaves_out whole set && true) (leaves_out whole) sets (λ set m. and-true (leaves_out whole set))
  with_room false sets = filter-none (λ set. leaves_out whole set && false) sets (λ set m. and-false (leaves_out whole set))

  pub line_listed : cuts_of_line a t i ≡ map (cut_kind a i) (cond fits (proper_once whole (map (closure (is_bound a t) whole) whole)) [])
  line_listed =
      filter-map (applies t) (cut_kind a i) (least_cuts a t i)
      ∙ ap (map (cut_kind a i)) (filter-agree (λ set. applies t (cut_kind a i set)) (λ set. leaves_out whole set && fits) (least_cuts a t i) tested ∙ with_room fits (least_cuts a t i))

-- with the cells of the line as they were found
pub line_found : (a : Axis) (t : Tiles) (i : ℕ) (found : List Cell) (sets : List (List Cell)) → ClosuresComeFirst → lines a t ≤ 7 → i < lines a t → found ≡ active_on a i t → IsOfLine a i found → sets ≡ proper_once found (map (closure (is_bound a t) found) found) → map (cut_kind a i) (where_they_fit a t i sets) ≡ cuts_of_line a t i
line_found a t i found sets law few inside e w f =
    ap (λ s. map (cut_kind a i) (where_they_fit a t i s)) (f ∙ ap (λ cells. proper_once cells (map (closure (is_bound a t) cells) cells)) e)
    ∙ sym (line_listed a t i law few inside (subst (λ cells. IsOfLine a i cells) e w))

-- no sets, or no room for any
pub none_there : (a : Axis) (t : Tiles) (i : ℕ) (sets : List (List Cell)) (kinds : List Kind) → length sets ≡ 0 → kinds ≡ kinds ++ map (cut_kind a i) (where_they_fit a t i sets)
none_there a t i [] kinds e = go (nat_le (preimage_sum (halved a t i) t) most_preimages)
  where
    go : (b : Bool) → kinds ≡ kinds ++ map (cut_kind a i) (cond b [] [])
    go true = sym (append-nil kinds)
    go false = sym (append-nil kinds)
none_there a t i (set ∷ sets) kinds e = absurd (omega arith)

pub none_fit : (a : Axis) (t : Tiles) (i : ℕ) (sets : List (List Cell)) (kinds : List Kind) (answer : Bool) → answer ≡ nat_le (preimage_sum (halved a t i) t) most_preimages → answer ≡ false → kinds ≡ kinds ++ map (cut_kind a i) (where_they_fit a t i sets)
none_fit a t i sets kinds answer e f = sym (ap (λ b. kinds ++ map (cut_kind a i) (cond b sets [])) (sym e ∙ f) ∙ append-nil kinds)

pub all_fit : (a : Axis) (t : Tiles) (i : ℕ) (sets : List (List Cell)) (answer : Bool) → answer ≡ nat_le (preimage_sum (halved a t i) t) most_preimages → answer ≡ true → map (cut_kind a i) sets ≡ map (cut_kind a i) (where_they_fit a t i sets)
all_fit a t i sets answer e f = sym (ap (λ b. map (cut_kind a i) (cond b sets [])) (sym e ∙ f))

-- ---- all lines
abbrev pub cuts_below : Axis → Tiles → ℕ → List Kind
cuts_below a t n = flat_map (cuts_of_line a t) (range_with_len 0 n)

pub next_line : (a : Axis) (t : Tiles) (n : ℕ) (before after : List Kind) → before ≡ cuts_below a t n → after ≡ before ++ cuts_of_line a t n → after ≡ cuts_below a t (n + 1)
next_line a t n before after e f =
    f ∙ ap (λ kinds. kinds ++ cuts_of_line a t n) e
    ∙ ap (λ kinds. cuts_below a t n ++ kinds) (sym (append-nil (cuts_of_line a t n)))
    ∙ sym (flat_map-append (cuts_of_line a t) (range_with_len 0 n) (n ∷ []))
    ∙ ap (flat_map (cuts_of_line a t)) (sym (range_next n))

pub all_lines : (a : Axis) (t : Tiles) (n : ℕ) (kinds : List Kind) → n ≡ lines a t → kinds ≡ cuts_below a t n → kinds ≡ cuts_along a t
all_lines a t n kinds e f =
    f ∙ ap (cuts_below a t) e ∙ sym (filter-flat_map (applies t) (λ i. map (cut_kind a i) (least_cuts a t i)) (numbers_below (lines a t)))

-- what is listed is some cut of a line
module _ (a : Axis) (t : Tiles) (k : Kind) where
  -- a closure that is cut off
  record IsClosureCut : Type 0 where
    pub line : ℕ
    pub cell : Cell
    pub is : k ≡ cut_kind a line (closure (is_bound a t) (active_on a line t) cell)
    pub active : IsIn cell (active_on a line t)

  closure_cut : IsIn k (flat_map (λ i. map (cut_kind a i) (least_cuts a t i)) (numbers_below (lines a t))) → IsClosureCut
  closure_cut m =
      let l = from_IsIn-flat_map (λ (i : ℕ). map (cut_kind a i) (least_cuts a t i)) (numbers_below (lines a t)) m in
      let s = from_IsIn-map (cut_kind a l.0) (least_cuts a t l.0) l.2 in
      let c = from_IsIn-map (closure (is_bound a t) (active_on a l.0 t)) (active_on a l.0 t) (from_once set_eq (map (closure (is_bound a t) (active_on a l.0 t)) (active_on a l.0 t)) s.0 s.1) in
      record { line = l.0; cell = c.0; is = s.2 ∙ ap (cut_kind a l.0) c.2; active = c.1 }

  least_cut : ClosuresComeFirst → applies t k ≡ true → IsClosureCut → IsLeastCut a t k
  least_cut law e r =
      let set = closure (is_bound a t) (active_on a r.line t) r.cell in
      let first = law a t r.line r.cell r.active in
      record {
        line = r.line;
        cell = r.cell;
        set = set;
        is = r.is;
        active = r.active;
        closed = refl;
        condition = sym (kind_applies a t r.line set) ∙ ap (applies t) (sym r.is) ∙ e;
        first = first.0;
        begins = is_true (has_cell set r.cell) (closure_is_least (is_bound a t) (active_on a r.line t) r.cell r.active).begins;
        least = first.1;
      }

  too_many : 7 < lines a t → IsClosureCut → applies t k ≡ false
  too_many l r =
      let none : nat_le (lines a t) 7 ≡ false = grind (arith, nat_tests) in
      ap (applies t) r.is ∙ kind_applies a t r.line (closure (is_bound a t) (active_on a r.line t) r.cell) ∙ rw none refl

pub are_least : (a : Axis) (t : Tiles) → ClosuresComeFirst → (kinds : List Kind) → kinds ≡ cuts_along a t → AreLeastCuts a t kinds
are_least a t law kinds e =
    rw e (all_in (λ k. IsLeastCut a t k) (cuts_along a t)
    (λ k m. let f = from_IsIn-filter (applies t) (flat_map (λ i. map (cut_kind a i) (least_cuts a t i)) (numbers_below (lines a t))) m in least_cut a t k law f.1 (closure_cut a t k f.0)))

pub no_lines : (a : Axis) (t : Tiles) → 7 < lines a t → [] ≡ cuts_along a t
no_lines a t l = sym (filter-none (applies t) (flat_map (λ i. map (cut_kind a i) (least_cuts a t i)) (numbers_below (lines a t))) (λ k m. too_many a t k l (closure_cut a t k m)))
