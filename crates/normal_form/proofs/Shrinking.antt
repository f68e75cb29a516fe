-- Each step makes the size of a tiling smaller.
use Rattle.std.proofs.Common.{◌≡◌, ℕ, ◌+◌, ◌-◌, ◌<◌, ◌≤◌, Bool, true, false, cond, List, [], ◌∷◌, length, refl, sym, ap, ◌∙◌, inl, inr, ⊎_elim, arith}
use Rattle.std.specs.Prelude.{◌⊎◌, ◌&&◌, not, nat_lt, map, sum_by, count_by, if◌then◌else◌}
use Rattle.std.specs.List.{filter, list_any}
use Rattle.std.specs.List.Sorted.{IsStrictlySortedBy}
use Rattle.std.specs.Cmp.Lexicographic.{slice_cmp, lists_total}
use Rattle.std.proofs.lemmas.Bool.Decides.{nat_tests, Decides-eqb}
use Rattle.std.proofs.lemmas.List.{length-map}
use Rattle.std.proofs.lemmas.List.Sums.{sum_by-cons}
use Rattle.std.proofs.lemmas.Bool.{and_parts as and_true, or_cases as or_true, not-true as not_true}
use Rattle.sequences.specs.Ascending.{in_order}
use Rattle.sequences.proofs.InOrder.{in_order-is}
use Rattle.gridded.specs.declared.Axis.{Axis}
use Rattle.gridded.specs.declared.Axis.TheVariants as axis
use Rattle.gridded.specs.declared.Cell.{Cell}
use Rattle.gridded.specs.Grids.{Point, holds}
use Rattle.gridded.specs.Orders.{gridded_eq, gridded_cmp, cell_eq, cells_of}
use Rattle.gridded.specs.OrderLaws.{gridded_total, gridded_exact}
use Rattle.gridded.specs.Parts.{restricted}
use Rattle.gridded.proofs.ClosedUp.{length-closed_up}
use Rattle.tiling_core.specs.Tiles.{Tiles, IsTiling, tiling_of}
use Rattle.tiling_core.specs.Same.{tiles_eq, tiles_eq_decides}
use Rattle.tiling_core.specs.Patterns.{holds_another, minimal, forbids, is_among}
use Rattle.tiling_core.proofs.Kept.{lists_exact}
use Rattle.steps.specs.declared.Step.{Step}
use Rattle.steps.specs.declared.Step.TheVariants.{Min, Clean, Lists, Column, Row, Void}
use Rattle.gridded.specs.Places.{has_one_point_in}
use Rattle.steps.specs.Steps.{step_applies, step_result, is_hopeless, is_isolated, can_be_cleaned, is_other_list, cleaned, cleaned_list, clean, useful, is_implied, tidied, tidy_lists, is_blank, close_up, close_cell, misses, without_line}
use Rattle.tiling_core.specs.Roots.{void_tiling}
use Rattle.steps.proofs.ListTests.{which_passes, at_each}
use Rattle.normal_form.specs.Measure.{size, size_of_pattern, size_of_patterns, size_of_list, StepsShrink}
use Rattle.sequences.proofs.Sums.{in_order_sum}
use Rattle.normal_form.proofs.Sums.{filter_sum, filter_drops, StaysOrFalls, filter_falls, map_sum, map_drops, map_falls, falls_then, in_sum, map_itself}
use Rattle.lists.specs.Members.{IsIn, is_nil}

-- what is put in order is no larger
tiling_of_size : (w h : ℕ) (obstructions : List (List Point)) (lists : List (List (List Point)))
    → size (tiling_of w h obstructions lists) ≤ w + h + size_of_patterns obstructions + sum_by (λ patterns. size_of_list patterns) lists
tiling_of_size w h obstructions lists =
    let ordered = map (λ patterns. in_order gridded_cmp patterns) lists in
    omega (
      arith,
      in_order_sum gridded_cmp (λ g. size_of_pattern g) obstructions,
      in_order_sum (slice_cmp gridded_cmp) (λ patterns. size_of_list patterns) ordered,
      map_sum (λ patterns. in_order gridded_cmp patterns) (λ patterns. size_of_list patterns) (λ patterns. size_of_list patterns) (λ patterns. omega (arith, in_order_sum gridded_cmp (λ g. size_of_pattern g) patterns)) lists,
    )

-- ---- Min
min_shrinks : (t : Tiles) → list_any (holds_another t.obstructions) t.obstructions ≡ true → size (tiling_of t.width t.height (minimal t.obstructions) t.requirements) < size t
min_shrinks t e =
    let w = which_passes (holds_another t.obstructions) t.obstructions e in
    let l = filter_drops (λ g. not (holds_another t.obstructions g)) (λ g. size_of_pattern g) w.1 (ap not w.2) (omega arith) in
    omega (arith, l, tiling_of_size t.width t.height (minimal t.obstructions) t.requirements)

-- ---- Clean
abbrev one_if : Bool → ℕ
one_if b = cond b 1 0

left_and_gone : (c : Cell) (g : List Point) → length (filter (λ p. not (cell_eq c p.cell)) g) + count_by (cell_eq c) (cells_of g) ≡ length g
left_and_gone c [] = refl
left_and_gone c (p ∷ g) = go (cell_eq c p.cell) refl (left_and_gone c g)
  where
    go : (b : Bool) → cell_eq c p.cell ≡ b → length (filter (λ q. not (cell_eq c q.cell)) g) + count_by (cell_eq c) (cells_of g) ≡ length g
        → length (cond (not b) (p ∷ filter (λ q. not (cell_eq c q.cell)) g) (filter (λ q. not (cell_eq c q.cell)) g)) + count_by (cell_eq c) (cells_of (p ∷ g)) ≡ length (p ∷ g)
    go true e ih =
        let one : one_if (cell_eq c p.cell) ≡ 1 = ap one_if e in
        omega (arith, ih, one, sum_by-cons (λ d. cond (cell_eq c d) 1 0) p.cell (cells_of g))
    go false e ih =
        let none : one_if (cell_eq c p.cell) ≡ 0 = ap one_if e in
        omega (arith, ih, none, sum_by-cons (λ d. cond (cell_eq c d) 1 0) p.cell (cells_of g))

restricted_size : (c : Cell) (g : List Point) → length (restricted (λ d. not (cell_eq c d)) g) + count_by (cell_eq c) (cells_of g) ≡ length g
restricted_size c g = ap (λ n. n + count_by (cell_eq c) (cells_of g)) (length-closed_up (filter (λ p. not (cell_eq c p.cell)) g)) ∙ left_and_gone c g

cleaned_size : (c : Cell) (g : List Point) → size_of_pattern (cleaned c g) ≤ size_of_pattern g
cleaned_size c g = go (has_one_point_in c g)
  where
    go : (b : Bool) → size_of_pattern (if b then restricted (λ d. not (cell_eq c d)) g else g) ≤ size_of_pattern g
    go true = omega (arith, restricted_size c g)
    go false = omega arith

cleaned_drops : (c : Cell) (g : List Point) → has_one_point_in c g ≡ true → size_of_pattern (cleaned c g) < size_of_pattern g
cleaned_drops c g e =
    let one : count_by (cell_eq c) (cells_of g) ≡ 1 = (Decides-eqb (count_by (cell_eq c) (cells_of g)) 1).0 e in
    rw e (omega (arith, one, restricted_size c g))

cleaned_list_size : (c : Cell) (patterns : List (List Point)) → size_of_list (cleaned_list c patterns) ≤ size_of_list patterns
cleaned_list_size c patterns = go (is_other_list c patterns)
  where
    go : (b : Bool) → size_of_list (if b then map (cleaned c) patterns else patterns) ≤ size_of_list patterns
    go true = omega (arith, map_sum (cleaned c) (λ g. size_of_pattern g) (λ g. size_of_pattern g) (cleaned_size c) patterns)
    go false = omega arith

cleaned_list_drops : (c : Cell) (patterns : List (List Point)) → (is_other_list c patterns && list_any (has_one_point_in c) patterns) ≡ true → size_of_list (cleaned_list c patterns) < size_of_list patterns
cleaned_list_drops c patterns e =
    let a = and_true (is_other_list c patterns) (list_any (has_one_point_in c) patterns) e in
    let w = which_passes (has_one_point_in c) patterns a.1 in
    let l = map_drops (cleaned c) (λ g. size_of_pattern g) (λ g. size_of_pattern g) (cleaned_size c) w.1 (cleaned_drops c w.0 w.2) in
    rw a.0 (omega (arith, l))

clean_shrinks : (c : Cell) (t : Tiles) → can_be_cleaned t c ≡ true → size (clean c t) < size t
clean_shrinks c t e = ⊎_elim {C = size (clean c t) < size t} obstruction list (or_true (list_any (has_one_point_in c) t.obstructions) (list_any (λ patterns. is_other_list c patterns && list_any (has_one_point_in c) patterns) t.requirements) e)
  where
    obstruction : list_any (has_one_point_in c) t.obstructions ≡ true → size (clean c t) < size t
    obstruction f =
        let w = which_passes (has_one_point_in c) t.obstructions f in
        omega (
          arith,
          map_drops (cleaned c) (λ g. size_of_pattern g) (λ g. size_of_pattern g) (cleaned_size c) w.1 (cleaned_drops c w.0 w.2),
          map_sum (cleaned_list c) (λ patterns. size_of_list patterns) (λ patterns. size_of_list patterns) (cleaned_list_size c) t.requirements,
          tiling_of_size t.width t.height (map (cleaned c) t.obstructions) (map (cleaned_list c) t.requirements),
        )

    list : list_any (λ patterns. is_other_list c patterns && list_any (has_one_point_in c) patterns) t.requirements ≡ true → size (clean c t) < size t
    list f =
        let w = which_passes (λ patterns. is_other_list c patterns && list_any (has_one_point_in c) patterns) t.requirements f in
        omega (
          arith,
          map_sum (cleaned c) (λ g. size_of_pattern g) (λ g. size_of_pattern g) (cleaned_size c) t.obstructions,
          map_drops (cleaned_list c) (λ patterns. size_of_list patterns) (λ patterns. size_of_list patterns) (cleaned_list_size c) w.1 (cleaned_list_drops c w.0 w.2),
          tiling_of_size t.width t.height (map (cleaned c) t.obstructions) (map (cleaned_list c) t.requirements),
        )

-- ---- Lists
abbrev size_of_lists : List (List (List Point)) → ℕ
size_of_lists lists = sum_by (λ patterns. size_of_list patterns) lists

useful_falls : (obstructions patterns : List (List Point)) → (useful obstructions patterns ≡ patterns) ⊎ (size_of_list (useful obstructions patterns) < size_of_list patterns)
useful_falls obstructions patterns =
    let left = filter (λ g. not (list_any (holds g) obstructions)) patterns in
    both (falls_then (λ ps. size_of_patterns ps) patterns left (minimal left)
    (filter_falls (λ g. not (list_any (holds g) obstructions)) (λ g. size_of_pattern g) (λ g. omega arith) patterns)
    (filter_falls (λ g. not (holds_another left g)) (λ g. size_of_pattern g) (λ g. omega arith) left))
  where
    both : StaysOrFalls (λ ps. size_of_patterns ps) patterns (useful obstructions patterns) → (useful obstructions patterns ≡ patterns) ⊎ (size_of_list (useful obstructions patterns) < size_of_list patterns)
    both (inl e) = inl e
    both (inr l) = inr (omega (arith, l))

tidied_falls : (obstructions : List (List Point)) (lists : List (List (List Point))) → StaysOrFalls (λ ls. size_of_lists ls) lists (tidied obstructions lists)
tidied_falls obstructions lists =
    let first = map (useful obstructions) lists in
    let kept = filter (λ patterns. not (is_among patterns [])) first in
    let some : (patterns : List (List Point)) → 0 < size_of_list patterns = λ patterns. omega arith in
    falls_then (λ ls. size_of_lists ls) lists first (tidied obstructions lists) (map_falls (useful obstructions) (λ patterns. size_of_list patterns) (useful_falls obstructions) lists)
    (falls_then (λ ls. size_of_lists ls) first kept (tidied obstructions lists) (filter_falls (λ patterns. not (is_among patterns [])) (λ patterns. size_of_list patterns) some first)
    (filter_falls (λ others. not (is_implied kept others)) (λ patterns. size_of_list patterns) some kept))

-- lists that ascend
pub record Ascends (t : Tiles) : Type 0 where
  pub obstructions : IsStrictlySortedBy gridded_cmp t.obstructions
  pub each : (patterns : List (List Point)) → IsIn patterns t.requirements → IsStrictlySortedBy gridded_cmp patterns
  pub requirements : IsStrictlySortedBy (slice_cmp gridded_cmp) t.requirements

patterns_stay : (patterns : List (List Point)) → IsStrictlySortedBy gridded_cmp patterns → in_order gridded_cmp patterns ≡ patterns
patterns_stay patterns s = sym (in_order-is gridded_cmp gridded_total gridded_exact patterns patterns (record { ascends = s; keeps = λ x k. k; adds_none = λ x k. k }))

lists_stay : (lists : List (List (List Point))) → IsStrictlySortedBy (slice_cmp gridded_cmp) lists → in_order (slice_cmp gridded_cmp) lists ≡ lists
lists_stay lists s = sym (in_order-is (slice_cmp gridded_cmp) (lists_total gridded_total) lists_exact lists lists (record { ascends = s; keeps = λ x k. k; adds_none = λ x k. k }))

stays_in_order : (t : Tiles) → Ascends t → tiling_of t.width t.height t.obstructions t.requirements ≡ t
stays_in_order t a =
    let o = patterns_stay t.obstructions a.obstructions in
    let each = map_itself (λ patterns. in_order gridded_cmp patterns) t.requirements (λ patterns m. patterns_stay patterns (a.each patterns m)) in
    let r = ap (in_order (slice_cmp gridded_cmp)) each ∙ lists_stay t.requirements a.requirements in
    λ i. record { width = t.width; height = t.height; obstructions = o i; requirements = r i }

lists_shrink : (t : Tiles) → Ascends t → not (tiles_eq (tidy_lists t) t) ≡ true → size (tidy_lists t) < size t
lists_shrink t a e = go (tidied_falls t.obstructions t.requirements)
  where
    go : StaysOrFalls (λ ls. size_of_lists ls) t.requirements (tidied t.obstructions t.requirements) → size (tidy_lists t) < size t
    go (inr l) = omega (arith, l, tiling_of_size t.width t.height t.obstructions (tidied t.obstructions t.requirements))
    go (inl s) =
        let same : tidy_lists t ≡ t = ap (λ lists. tiling_of t.width t.height t.obstructions lists) s ∙ stays_in_order t a in
        let f = not_true (tiles_eq (tidy_lists t) t) e in
        let g = (tiles_eq_decides (tidy_lists t) t).1 same in
        absurd cc

-- ---- Column and Row
closed_size : (a : Axis) (i : ℕ) (g : List Point) → size_of_pattern (close_up a i g) ≤ size_of_pattern g
closed_size a i g = omega (arith, length-map {B = Point} g (λ p. record { letter = p.letter; cell = close_cell a i p.cell }))

closed_patterns : (a : Axis) (i : ℕ) (patterns : List (List Point)) → size_of_patterns (map (close_up a i) (filter (misses a i) patterns)) ≤ size_of_patterns patterns
closed_patterns a i patterns =
    omega (arith, map_sum (close_up a i) (λ g. size_of_pattern g) (λ g. size_of_pattern g) (closed_size a i) (filter (misses a i) patterns), filter_sum (misses a i) (λ g. size_of_pattern g) patterns)

closed_list : (a : Axis) (i : ℕ) (patterns : List (List Point)) → size_of_list (map (close_up a i) patterns) ≤ size_of_list patterns
closed_list a i patterns = omega (arith, map_sum (close_up a i) (λ g. size_of_pattern g) (λ g. size_of_pattern g) (closed_size a i) patterns)

line_shrinks : (a : Axis) (i : ℕ) (t : Tiles) → is_blank a i t ≡ true → size (without_line a i t) < size t
line_shrinks axis.Column i t e =
    let l : i < t.width = grind (arith, nat_tests, (and_true (nat_lt i t.width) _ e).0) in
    omega (
      arith,
      l,
      closed_patterns axis.Column i t.obstructions,
      map_sum (map (close_up axis.Column i)) (λ patterns. size_of_list patterns) (λ patterns. size_of_list patterns) (closed_list axis.Column i) t.requirements,
      tiling_of_size (t.width - 1) t.height (map (close_up axis.Column i) (filter (misses axis.Column i) t.obstructions)) (map (map (close_up axis.Column i)) t.requirements),
    )
line_shrinks axis.Row i t e =
    let l : i < t.height = grind (arith, nat_tests, (and_true (nat_lt i t.height) _ e).0) in
    omega (
      arith,
      l,
      closed_patterns axis.Row i t.obstructions,
      map_sum (map (close_up axis.Row i)) (λ patterns. size_of_list patterns) (λ patterns. size_of_list patterns) (closed_list axis.Row i) t.requirements,
      tiling_of_size t.width (t.height - 1) (map (close_up axis.Row i) (filter (misses axis.Row i) t.obstructions)) (map (map (close_up axis.Row i)) t.requirements),
    )

-- ---- Void
no_lists : (lists : List (List (List Point))) → size_of_lists lists ≤ 0 → lists ≡ []
no_lists [] l = refl
no_lists (a ∷ lists) l = absurd (omega (arith, l, sum_by-cons (λ patterns. size_of_list patterns) a lists))

one_empty : (patterns : List (List Point)) → 1 ≤ size_of_patterns patterns → size_of_patterns patterns ≤ 1 → patterns ≡ [] ∷ []
one_empty [] l k = absurd (omega (arith, l))
one_empty ([] ∷ []) l k = refl
one_empty ((p ∷ g) ∷ []) l k = absurd (omega (arith, k, sum_by-cons (λ h. size_of_pattern h) (p ∷ g) []))
one_empty (g ∷ h ∷ patterns) l k = absurd (omega (arith, k, sum_by-cons (λ h. size_of_pattern h) g (h ∷ patterns), sum_by-cons (λ h. size_of_pattern h) h patterns))

void_shrinks : (t : Tiles) → (is_hopeless t && not (tiles_eq t void_tiling)) ≡ true → 1 < size t
void_shrinks t e = ⊎_elim {C = 1 < size t} empty_list empty_pattern (or_true (list_any is_nil t.requirements) (forbids t []) a.0)
  where
    a : (is_hopeless t ≡ true) × (not (tiles_eq t void_tiling) ≡ true)
    a = and_true (is_hopeless t) (not (tiles_eq t void_tiling)) e

    empty_list : list_any is_nil t.requirements ≡ true → 1 < size t
    empty_list f =
        let w = which_passes is_nil t.requirements f in
        omega (arith, in_sum (λ patterns. size_of_list patterns) w.1)

    empty_pattern : forbids t [] ≡ true → 1 < size t
    empty_pattern f = go (nat_lt 1 (size t)) refl (in_sum (λ g. size_of_pattern g) (which_passes (gridded_eq []) t.obstructions f).1)
      where
        go : (b : Bool) → nat_lt 1 (size t) ≡ b → size_of_pattern (which_passes (gridded_eq []) t.obstructions f).0 ≤ size_of_patterns t.obstructions → 1 < size t
        go true g m = grind (arith, nat_tests)
        go false g m =
            let small : size t ≤ 1 = grind (arith, nat_tests) in
            let w : t.width ≡ 0 = omega (arith, small, m) in
            let h : t.height ≡ 0 = omega (arith, small, m) in
            let o = one_empty t.obstructions (omega (arith, m)) (omega (arith, small)) in
            let r = no_lists t.requirements (omega (arith, small, m)) in
            let same : t ≡ void_tiling = λ i. record { width = w i; height = h i; obstructions = o i; requirements = r i } in
            let x = not_true (tiles_eq t void_tiling) a.1 in
            let y = (tiles_eq_decides t void_tiling).1 same in
            absurd cc

-- ---- each step
pub ascends_all : (t : Tiles) → IsTiling t → Ascends t
ascends_all t k = record { obstructions = k.obstructions_ascend; each = λ patterns m. at_each (λ ps. IsStrictlySortedBy gridded_cmp ps) k.each_ascends m; requirements = k.requirements_ascend }

pub ascending_shrinks : (s : Step) (t : Tiles) → Ascends t → step_applies s t ≡ true → size (step_result s t) < size t
unfolding step_applies step_result
ascending_shrinks Void t a e = void_shrinks t e
ascending_shrinks Min t a e = min_shrinks t e
ascending_shrinks (Clean c) t a e = clean_shrinks c t (and_true (is_isolated t c) (can_be_cleaned t c) e).1
ascending_shrinks Lists t a e = lists_shrink t a e
ascending_shrinks (Column x) t a e = line_shrinks axis.Column x t e
ascending_shrinks (Row y) t a e = line_shrinks axis.Row y t e

pub steps_shrink : StepsShrink
steps_shrink s t k e = ascending_shrinks s t (ascends_all t k) e
