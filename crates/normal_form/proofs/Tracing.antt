-- Each tiling has exactly one trace, at the end of which no step applies.
use Rattle.std.proofs.Common.{◌≡◌, ℕ, zero, suc, ◌-◌, ◌≤◌, Bool, true, false, List, [], ◌∷◌, ◌++◌, refl, sym, subst, arith}
use Rattle.std.specs.Prelude.{◌&&◌, nat_lt, map, All, Option, Some, None}
use Rattle.std.specs.List.{filter, range_with_len}
use Rattle.std.specs.List.Sorted.{IsStrictlySortedBy}
use Rattle.std.specs.Cmp.Lexicographic.{slice_cmp}
use Rattle.std.proofs.lemmas.Bool.Decides.{nat_tests}
use Rattle.std.proofs.lemmas.Bool.{and_parts as and_true}
use Rattle.lists.specs.Members.IsIn.{here, later}
use Rattle.lists.specs.Members.{IsIn}
use Rattle.lists.proofs.Members.{IsIn-map, from_IsIn-map, IsIn-append_left, IsIn-append_right}
use Rattle.lists.proofs.Ranges.{in_range_with_len}
use Rattle.sequences.specs.Ascending.{in_order}
use Rattle.gridded.specs.declared.Axis.{Axis}
use Rattle.gridded.specs.declared.Axis.TheVariants as axis
use Rattle.gridded.specs.declared.Cell.{Cell}
use Rattle.gridded.specs.Grids.{Point, cells_in}
use Rattle.gridded.specs.Orders.{gridded_cmp}
use Rattle.tiling_core.specs.Tiles.{Tiles, IsTiling, tiling_of}
use Rattle.gridded.specs.Places.{fits_grid}
use Rattle.gridded.specs.Small.{rising}
use Rattle.tiling_core.specs.Patterns.{forbids, minimal}
use Rattle.tiling_core.proofs.Kept.{patterns_ascend, lists_ascend, All-lists}
use Rattle.steps.specs.declared.Step.{Step}
use Rattle.steps.specs.declared.Step.TheVariants.{Min, Clean, Lists, Column, Row, Void}
use Rattle.steps.specs.Steps.{step_applies, step_result, is_isolated, can_be_cleaned, cleaned, cleaned_list, tidied, close_up, misses}
use Rattle.steps.specs.Traces.{steps_of, first_step, IsTrace, IsNormal}
use Rattle.steps.specs.Traces.IsTrace.{ended, then_step}
use Rattle.steps.proofs.ListTests.{at_each}
use Rattle.steps.proofs.InGrid.{all_in}
use Rattle.steps.proofs.Isolated.{forbidden}
use Rattle.steps.proofs.Lines.{cell_is_in}
use Rattle.normal_form.specs.Measure.{size}
use Rattle.normal_form.specs.TraceLaws.{trace_within, trace, TraceIsTotal, TraceIsFunctional, NormalWhereNoneIsFirst}
use Rattle.normal_form.proofs.Shrinking.{Ascends, ascends_all, ascending_shrinks}
use Rattle.normal_form.proofs.Found.{found_passes, none_found, nothing_to_find}

-- ---- the first step
pub first_applies : (t : Tiles) (s : Step) → first_step t ≡ Some s → step_applies s t ≡ true
first_applies t s e = found_passes (λ r. step_applies r t) (steps_of t) s e

-- ---- one trace at most
pub at_end : {t : Tiles} → IsTrace t [] → first_step t ≡ None
at_end (ended e) = e

pub begins : {t : Tiles} {s : Step} {rest : List Step} → IsTrace t (s ∷ rest) → (first_step t ≡ Some s) × IsTrace (step_result s t) rest
begins (then_step e m) = (e, m)

pub functional : TraceIsFunctional
functional t [] [] a b = refl
functional t [] (s ∷ other) a b = let e = at_end a in let f = (begins b).0 in absurd cc
functional t (s ∷ one) [] a b = let e = at_end b in let f = (begins a).0 in absurd cc
functional t (s ∷ one) (r ∷ other) a b =
    let e = (begins a).0 in
    let f = (begins b).0 in
    let same : r ≡ s = cc in
    let rest = functional (step_result s t) one other (begins a).1 (subst (λ (q : Step). IsTrace (step_result q t) other) same (begins b).1) in
    λ i. sym same i ∷ rest i

-- ---- one trace at least
tiling_of_ascends : (w h : ℕ) (obstructions : List (List Point)) (lists : List (List (List Point))) → Ascends (tiling_of w h obstructions lists)
tiling_of_ascends w h obstructions lists = record {
  obstructions = patterns_ascend obstructions;
  each = λ patterns m. at_each (λ ps. IsStrictlySortedBy gridded_cmp ps) every m;
  requirements = lists_ascend (map (λ patterns. in_order gridded_cmp patterns) lists);
}
  where
    every : All (λ ps. IsStrictlySortedBy gridded_cmp ps) (in_order (slice_cmp gridded_cmp) (map (λ patterns. in_order gridded_cmp patterns) lists))
    every =
        All-lists (λ ps. IsStrictlySortedBy gridded_cmp ps) (map (λ patterns. in_order gridded_cmp patterns) lists)
        (all_in (λ ps. IsStrictlySortedBy gridded_cmp ps) (map (λ patterns. in_order gridded_cmp patterns) lists)
        (λ ps m. let w = from_IsIn-map (λ patterns. in_order gridded_cmp patterns) lists m in rw w.2 (patterns_ascend w.0)))

result_ascends : (s : Step) (t : Tiles) → Ascends (step_result s t)
unfolding step_result
result_ascends Void t = tiling_of_ascends 0 0 ([] ∷ []) []
result_ascends Min t = tiling_of_ascends t.width t.height (minimal t.obstructions) t.requirements
result_ascends (Clean c) t = tiling_of_ascends t.width t.height (map (cleaned c) t.obstructions) (map (cleaned_list c) t.requirements)
result_ascends Lists t = tiling_of_ascends t.width t.height t.obstructions (tidied t.obstructions t.requirements)
result_ascends (Column x) t = tiling_of_ascends (t.width - 1) t.height (map (close_up axis.Column x) (filter (misses axis.Column x) t.obstructions)) (map (map (close_up axis.Column x)) t.requirements)
result_ascends (Row y) t = tiling_of_ascends t.width (t.height - 1) (map (close_up axis.Row y) (filter (misses axis.Row y) t.obstructions)) (map (map (close_up axis.Row y)) t.requirements)

total_within : (n : ℕ) (t : Tiles) → Ascends t → size t ≤ n → IsTrace t (trace_within n t)
total_within zero t a l = go (first_step t) refl
  where
    go : (o : Option Step) → first_step t ≡ o → IsTrace t []
    go None e = ended e
    go (Some s) e = absurd (omega (arith, l, ascending_shrinks s t a (first_applies t s e)))
total_within (suc n) t a l = go (first_step t) refl (λ u b k. total_within n u b k)
  where
    go : (o : Option Step) → first_step t ≡ o → ((u : Tiles) → Ascends u → size u ≤ n → IsTrace u (trace_within n u)) → IsTrace t (elim o [ None ↦ [] | Some s ↦ s ∷ trace_within n (step_result s t) ])
    go None e ih = ended e
    go (Some s) e ih = then_step e (ih (step_result s t) (result_ascends s t) (omega (arith, l, ascending_shrinks s t a (first_applies t s e))))

pub total : TraceIsTotal
unfolding trace
total t k = total_within (size t) t (ascends_all t k) (omega arith)

-- ---- each step that applies is tried
pub clean_in_grid : (c : Cell) (t : Tiles) → IsTiling t → is_isolated t c ≡ true → IsIn c (cells_in t.width t.height)
clean_in_grid c t k e =
    let place = forbidden t (rising c c) (and_true (forbids t (rising c c)) _ e).0 in
    let inside : fits_grid t.width t.height (rising c c) ≡ true = at_each (λ g. fits_grid t.width t.height g ≡ true) k.obstructions_in place in
    cell_is_in t.width t.height c (and_true (nat_lt c.x t.width && nat_lt c.y t.height) _ inside).0

below : (a : Axis) (i n : ℕ) (rest : Bool) → (nat_lt i n && rest) ≡ true → IsIn i (range_with_len 0 n)
below a i n rest e =
    let l : nat_lt i n ≡ true = (and_true (nat_lt i n) rest e).0 in
    in_range_with_len 0 n i (omega arith) (grind (arith, nat_tests))

abbrev pub cleanings : Tiles → List Step
cleanings t = map (λ c. Clean c) (cells_in t.width t.height)

abbrev pub columns : Tiles → List Step
columns t = map (λ x. Column x) (range_with_len 0 t.width)

abbrev pub rows : Tiles → List Step
rows t = map (λ y. Row y) (range_with_len 0 t.height)

among_all : (s : Step) (t : Tiles) → IsIn s ((cleanings t ++ Lists ∷ columns t) ++ rows t) → IsIn s (steps_of t)
among_all s t m = later Void (later Min m)

before_rows : (s : Step) (t : Tiles) → IsIn s (cleanings t ++ Lists ∷ columns t) → IsIn s (steps_of t)
before_rows s t m = among_all s t (IsIn-append_left (rows t) m)

tried : (s : Step) (t : Tiles) → IsTiling t → step_applies s t ≡ true → IsIn s (steps_of t)
unfolding step_applies
tried Void t k e = here
tried Min t k e = later Void here
tried (Clean c) t k e = before_rows (Clean c) t (IsIn-append_left (Lists ∷ columns t) (IsIn-map (λ c. Clean c) (clean_in_grid c t k (and_true (is_isolated t c) (can_be_cleaned t c) e).0)))
tried Lists t k e = before_rows Lists t (IsIn-append_right (cleanings t) here)
tried (Column x) t k e = before_rows (Column x) t (IsIn-append_right (cleanings t) (later Lists (IsIn-map (λ x. Column x) (below axis.Column x t.width _ e))))
tried (Row y) t k e = among_all (Row y) t (IsIn-append_right (cleanings t ++ Lists ∷ columns t) (IsIn-map (λ y. Row y) (below axis.Row y t.height _ e)))

pub none_applies : (t : Tiles) → IsTiling t → first_step t ≡ None → IsNormal t
none_applies t k e s = go (step_applies s t) refl
  where
    go : (b : Bool) → step_applies s t ≡ b → step_applies s t ≡ false
    go true f = none_found (λ r. step_applies r t) e (tried s t k f)
    go false f = f

pub normal_where_none : NormalWhereNoneIsFirst
normal_where_none t k = (none_applies t k, λ n. nothing_to_find (λ r. step_applies r t) (steps_of t) n)
