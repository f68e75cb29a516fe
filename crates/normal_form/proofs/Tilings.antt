-- What a step that applies makes of a tiling is a tiling, and so is what a replay makes of it.
use Rattle.std.proofs.Common.{◌≡◌, ℕ, ◌-◌, ◌<◌, ◌≤◌, Bool, true, false, List, [], ◌∷◌, length, refl, arith}
use Rattle.std.specs.Prelude.{not, map, sum_by, All, Some, None, if◌then◌else◌}
use Rattle.std.specs.List.{filter, list_all, list_any}
use Rattle.std.specs.Cmp.Lexicographic.{slice_cmp}
use Rattle.std.specs.declared.cmp.Ordering.{Ordering}
use Rattle.std.proofs.lemmas.List.{length-map}
use Rattle.std.proofs.lemmas.List.Sums.{sum_by-cons, length-filter, count_by-le-length}
use Rattle.std.proofs.lemmas.List.Elements.{All-map, All-weaker, All-filter}
use Rattle.lists.specs.Members.IsIn.{here, later}
use Rattle.lists.specs.Members.{IsIn}
use Rattle.lists.proofs.Members.{from_IsIn-map, from_IsIn-filter}
use Rattle.sequences.specs.Ascending.{in_order}
use Rattle.gridded.specs.declared.Axis.{Axis}
use Rattle.gridded.specs.declared.Axis.TheVariants as axis
use Rattle.gridded.specs.declared.Cell.{Cell}
use Rattle.gridded.specs.Axes.{line_of, with_line}
use Rattle.gridded.specs.Grids.{Point, IsGridded, holds}
use Rattle.gridded.specs.Orders.{gridded_cmp, cell_eq}
use Rattle.gridded.specs.Parts.{restricted}
use Rattle.gridded.proofs.ClosedUp.{IsClosedUp-restricted}
use Rattle.tiling_core.specs.Tiles.{Tiles, IsTiling, IsInGrid, IsKept, AreGridded, tiling_of}
use Rattle.gridded.specs.Places.{fits_grid, has_one_point_in}
use Rattle.tiling_core.specs.Patterns.{holds_another, minimal, is_among}
use Rattle.tiling_core.proofs.Kept.{IsTiling-in_order, All-ordered}
use Rattle.steps.specs.declared.Step.TheVariants.{Min, Clean, Lists, Column, Row, Void}
use Rattle.steps.specs.Steps.{step_applies, step_result, is_other_list, cleaned, cleaned_list, clean, useful, is_implied, tidied, tidy_lists, is_blank, close_up, misses, without_line, rename, sides}
use Rattle.tiling_core.specs.Roots.{void_tiling}
use Rattle.steps.specs.Traces.{replay}
use Rattle.steps.specs.Kept.{StepsKeepMembers, KeepsMembers, rename_all}
use Rattle.steps.proofs.ListTests.{at_each, each_passes}
use Rattle.steps.proofs.InGrid.{all_in}
use Rattle.steps.proofs.Lines.{blank_tells}
use Rattle.steps.proofs.OnLine.{closed_is_gridded, obstructions_closed_in, lists_closed_in}
use Rattle.steps.proofs.Removed.{all_cleaned_in}
use Rattle.steps.proofs.Replays.{one_after, keeps_itself}
use Rattle.normal_form.specs.TraceLaws.{StepsKeepTilings, ReplaysKeepMembers, ReplaysKeepTilings, TracesEndNormal}
use Rattle.sequences.proofs.Sums.{in_order_sum}
use Rattle.normal_form.proofs.Tracing.{first_applies, at_end, begins, none_applies}

-- ---- lists stay short
pub ones : {X : Type 0} (xs : List X) → sum_by (λ _. 1) xs ≡ length xs
ones [] = refl
ones (x ∷ xs) = omega (arith, ones xs, sum_by-cons (λ _. 1) x xs)

few_ordered : {X : Type 0} (cmp : X → X → Ordering) (xs : List X) → IsKept xs → IsKept (in_order cmp xs)
few_ordered cmp xs k = omega (arith, k, ones xs, ones (in_order cmp xs), in_order_sum cmp (λ _. 1) xs)

few_filtered : {X : Type 0} (p : X → Bool) (xs : List X) → IsKept xs → IsKept (filter p xs)
few_filtered p xs k = omega (arith, k, length-filter p xs, count_by-le-length p xs)

few_mapped : {X Y : Type 0} (f : X → Y) (xs : List X) → IsKept xs → IsKept (map f xs)
few_mapped f xs k = omega (arith, k, length-map xs f)

-- ---- what holds of each
all_mapped : {X : Type 0} (P : X → Type 0) (f : X → X) → ((x : X) → P x → P (f x)) → (xs : List X) → All P xs → All P (map f xs)
all_mapped P f k xs h = All-map P f xs (All-weaker P (λ x. P (f x)) k xs h)

-- patterns in a grid
pub record ArePatterns (w h : ℕ) (patterns : List (List Point)) : Type 0 where
  pub gridded : AreGridded patterns
  pub inside : IsInGrid w h patterns
  pub few : IsKept patterns

of_patterns : (w h : ℕ) (obstructions : List (List Point)) (lists : List (List (List Point))) → w ≤ 8 → h ≤ 8 → ArePatterns w h obstructions → All (λ patterns. ArePatterns w h patterns) lists → IsKept lists → IsTiling (tiling_of w h obstructions lists)
of_patterns w h obstructions lists n l o r few =
    let ordered = map (λ patterns. in_order gridded_cmp patterns) lists in
    IsTiling-in_order w h obstructions (in_order gridded_cmp obstructions) lists ordered (in_order (slice_cmp gridded_cmp) ordered) refl refl refl
    o.gridded (All-weaker (λ patterns. ArePatterns w h patterns) (λ patterns. AreGridded patterns) (λ patterns k. k.gridded) lists r) n l
    o.inside (All-weaker (λ patterns. ArePatterns w h patterns) (λ patterns. IsInGrid w h patterns) (λ patterns k. k.inside) lists r)
    (few_ordered gridded_cmp obstructions o.few)
    (All-ordered (λ patterns. ArePatterns w h patterns) (λ patterns. IsKept patterns) (λ patterns k. few_ordered gridded_cmp patterns k.few) lists r)
    (few_ordered (slice_cmp gridded_cmp) ordered (few_mapped (λ patterns. in_order gridded_cmp patterns) lists few))

-- those of a tiling
obstructions_of : (t : Tiles) → IsTiling t → ArePatterns t.width t.height t.obstructions
obstructions_of t k = record { gridded = k.obstructions_gridded; inside = k.obstructions_in; few = k.few_obstructions }

lists_of : (t : Tiles) → IsTiling t → All (λ patterns. ArePatterns t.width t.height patterns) t.requirements
lists_of t k = all_in (λ patterns. ArePatterns t.width t.height patterns) t.requirements (λ patterns m. record {
  gridded = at_each (λ ps. AreGridded ps) k.requirements_gridded m;
  inside = at_each (λ ps. IsInGrid t.width t.height ps) k.requirements_in m;
  few = at_each (λ ps. IsKept ps) k.few_each m;
})

filtered : (w h : ℕ) (p : List Point → Bool) (patterns : List (List Point)) → ArePatterns w h patterns → ArePatterns w h (filter p patterns)
filtered w h p patterns k = record {
  gridded = All-filter p (λ g. IsGridded g) patterns k.gridded;
  inside = All-filter p (λ g. fits_grid w h g ≡ true) patterns k.inside;
  few = few_filtered p patterns k.few;
}

-- ---- each step
nothing_in : {X : Type 0} (P : X → Type 0) → All P []
nothing_in P = all_in P [] (λ x m. elim m [ ])

empty_is_gridded : IsGridded []
empty_is_gridded = record { short = omega arith; below = nothing_in (λ p. p.letter < 0); distinct = refl; consistent = refl }

void_is_tiling : IsTiling void_tiling
void_is_tiling =
    of_patterns 0 0 ([] ∷ []) [] (omega arith) (omega arith)
    (record { gridded = all_in (λ g. IsGridded g) ([] ∷ []) gridded; inside = all_in (λ g. fits_grid 0 0 g ≡ true) ([] ∷ []) inside; few = omega arith })
    (nothing_in (λ patterns. ArePatterns 0 0 patterns)) (omega arith)
  where
    gridded : (g : List Point) → IsIn g ([] ∷ []) → IsGridded g
    gridded g here = empty_is_gridded
    gridded g (later _ m) = elim m [ ]

    inside : (g : List Point) → IsIn g ([] ∷ []) → fits_grid 0 0 g ≡ true
    inside g here = refl
    inside g (later _ m) = elim m [ ]

cleaned_is_gridded : (c : Cell) (g : List Point) → IsGridded g → IsGridded (cleaned c g)
cleaned_is_gridded c g k = go (has_one_point_in c g)
  where
    go : (b : Bool) → IsGridded (if b then restricted (λ d. not (cell_eq c d)) g else g)
    go true = (IsClosedUp-restricted (λ d. not (cell_eq c d)) g k).gridded
    go false = k

all_cleaned : (w h : ℕ) (c : Cell) (patterns : List (List Point)) → ArePatterns w h patterns → ArePatterns w h (map (cleaned c) patterns)
all_cleaned w h c patterns k = record {
  gridded = all_mapped (λ g. IsGridded g) (cleaned c) (cleaned_is_gridded c) patterns k.gridded;
  inside = all_cleaned_in w h c patterns k.inside;
  few = few_mapped (cleaned c) patterns k.few;
}

list_cleaned : (w h : ℕ) (c : Cell) (patterns : List (List Point)) → ArePatterns w h patterns → ArePatterns w h (cleaned_list c patterns)
list_cleaned w h c patterns k = go (is_other_list c patterns)
  where
    go : (b : Bool) → ArePatterns w h (if b then map (cleaned c) patterns else patterns)
    go true = all_cleaned w h c patterns k
    go false = k

clean_is_tiling : (c : Cell) (t : Tiles) → IsTiling t → IsTiling (clean c t)
clean_is_tiling c t k =
    of_patterns t.width t.height (map (cleaned c) t.obstructions) (map (cleaned_list c) t.requirements) k.narrow k.low
    (all_cleaned t.width t.height c t.obstructions (obstructions_of t k))
    (all_mapped (λ ps. ArePatterns t.width t.height ps) (cleaned_list c) (list_cleaned t.width t.height c) t.requirements (lists_of t k))
    (few_mapped (cleaned_list c) t.requirements k.few_requirements)

all_useful : (w h : ℕ) (obstructions patterns : List (List Point)) → ArePatterns w h patterns → ArePatterns w h (useful obstructions patterns)
all_useful w h obstructions patterns k =
    let left = filter (λ g. not (list_any (holds g) obstructions)) patterns in
    filtered w h (λ g. not (holds_another left g)) left (filtered w h (λ g. not (list_any (holds g) obstructions)) patterns k)

tidy_is_tiling : (t : Tiles) → IsTiling t → IsTiling (tidy_lists t)
tidy_is_tiling t k =
    let first = map (useful t.obstructions) t.requirements in
    let kept = filter (λ patterns. not (is_among patterns [])) first in
    of_patterns t.width t.height t.obstructions (tidied t.obstructions t.requirements) k.narrow k.low (obstructions_of t k)
    (All-filter (λ others. not (is_implied kept others)) (λ ps. ArePatterns t.width t.height ps) kept
    (All-filter (λ patterns. not (is_among patterns [])) (λ ps. ArePatterns t.width t.height ps) first
    (all_mapped (λ ps. ArePatterns t.width t.height ps) (useful t.obstructions) (all_useful t.width t.height t.obstructions) t.requirements (lists_of t k))))
    (few_filtered (λ others. not (is_implied kept others)) kept
    (few_filtered (λ patterns. not (is_among patterns [])) first (few_mapped (useful t.obstructions) t.requirements k.few_requirements)))

module _ (a : Axis) (i : ℕ) (t : Tiles) (k : IsTiling t) (e : is_blank a i t ≡ true) where
  closed_obstructions : AreGridded (map (close_up a i) (filter (misses a i) t.obstructions))
  closed_obstructions = all_in (λ g. IsGridded g) (map (close_up a i) (filter (misses a i) t.obstructions)) (λ g m.
      let w = from_IsIn-map (close_up a i) (filter (misses a i) t.obstructions) m in
      let q = from_IsIn-filter (misses a i) t.obstructions w.1 in
      rw w.2 (closed_is_gridded a i w.0 (at_each (λ p. IsGridded p) k.obstructions_gridded q.0) q.1))

  closed_list : (patterns : List (List Point)) → IsIn patterns t.requirements → AreGridded (map (close_up a i) patterns)
  closed_list patterns m = all_in (λ g. IsGridded g) (map (close_up a i) patterns) (λ g n.
      let w = from_IsIn-map (close_up a i) patterns n in
      let miss = each_passes (misses a i) (each_passes (list_all (misses a i)) (blank_tells a i t e).lists_miss m) w.1 in
      rw w.2 (closed_is_gridded a i w.0 (at_each (λ p. IsGridded p) (at_each (λ ps. AreGridded ps) k.requirements_gridded m) w.1) miss))

  few_closed : (patterns : List (List Point)) → IsIn patterns t.requirements → IsKept (map (close_up a i) patterns)
  few_closed patterns m = few_mapped (close_up a i) patterns (at_each (λ ps. IsKept ps) k.few_each m)

line_is_tiling : (a : Axis) (i : ℕ) (t : Tiles) → IsTiling t → is_blank a i t ≡ true → IsTiling (without_line a i t)
line_is_tiling a i t k e = go a e (obstructions_closed_in a i t k e) (lists_closed_in a i t k e) (closed_obstructions a i t k e) (closed_list a i t k e) (few_closed a i t k e)
  where
    made : (b : Axis) (w h : ℕ) → w ≤ 8 → h ≤ 8 → IsInGrid w h (map (close_up b i) (filter (misses b i) t.obstructions)) → All (λ ps. IsInGrid w h ps) (map (map (close_up b i)) t.requirements)
        → AreGridded (map (close_up b i) (filter (misses b i) t.obstructions)) → ((patterns : List (List Point)) → IsIn patterns t.requirements → AreGridded (map (close_up b i) patterns))
        → ((patterns : List (List Point)) → IsIn patterns t.requirements → IsKept (map (close_up b i) patterns))
        → IsTiling (tiling_of w h (map (close_up b i) (filter (misses b i) t.obstructions)) (map (map (close_up b i)) t.requirements))
    made b w h n l oi li og lg lf =
        of_patterns w h (map (close_up b i) (filter (misses b i) t.obstructions)) (map (map (close_up b i)) t.requirements) n l
        (record { gridded = og; inside = oi; few = few_mapped (close_up b i) (filter (misses b i) t.obstructions) (few_filtered (misses b i) t.obstructions k.few_obstructions) })
        (all_in (λ ps. ArePatterns w h ps) (map (map (close_up b i)) t.requirements) (λ ps m.
        let z = from_IsIn-map (map (close_up b i)) t.requirements m in
        record { gridded = rw z.2 (lg z.0 z.1); inside = at_each (λ qs. IsInGrid w h qs) li m; few = rw z.2 (lf z.0 z.1) }))
        (few_mapped (map (close_up b i)) t.requirements k.few_requirements)

    go : (b : Axis) → is_blank b i t ≡ true → (let left = with_line b (line_of b (sides t) - 1) (sides t) in IsInGrid left.x left.y (map (close_up b i) (filter (misses b i) t.obstructions)))
        → (let left = with_line b (line_of b (sides t) - 1) (sides t) in All (λ ps. IsInGrid left.x left.y ps) (map (map (close_up b i)) t.requirements))
        → AreGridded (map (close_up b i) (filter (misses b i) t.obstructions)) → ((patterns : List (List Point)) → IsIn patterns t.requirements → AreGridded (map (close_up b i) patterns))
        → ((patterns : List (List Point)) → IsIn patterns t.requirements → IsKept (map (close_up b i) patterns)) → IsTiling (without_line b i t)
    go axis.Column f oi li og lg lf = made axis.Column (t.width - 1) t.height (omega (arith, k.narrow)) k.low oi li og lg lf
    go axis.Row f oi li og lg lf = made axis.Row t.width (t.height - 1) k.narrow (omega (arith, k.low)) oi li og lg lf

pub steps_keep_tilings : StepsKeepTilings
unfolding step_applies step_result
steps_keep_tilings Void t k e = void_is_tiling
steps_keep_tilings Min t k e =
    of_patterns t.width t.height (minimal t.obstructions) t.requirements k.narrow k.low (filtered t.width t.height (λ g. not (holds_another t.obstructions g)) t.obstructions (obstructions_of t k)) (lists_of t k) k.few_requirements
steps_keep_tilings (Clean c) t k e = clean_is_tiling c t k
steps_keep_tilings Lists t k e = tidy_is_tiling t k
steps_keep_tilings (Column x) t k e = line_is_tiling axis.Column x t k e
steps_keep_tilings (Row y) t k e = line_is_tiling axis.Row y t k e

-- ---- one step after the other
pub replays_keep_tilings : ReplaysKeepTilings
replays_keep_tilings [] t u k e = let same : t ≡ u = cc in rw (← same) k
replays_keep_tilings (s ∷ steps) t u k e = go (step_applies s t) refl (λ l f. replays_keep_tilings steps (step_result s t) u l f) e
  where
    go : (b : Bool) → step_applies s t ≡ b → (IsTiling (step_result s t) → replay (step_result s t) steps ≡ Some u → IsTiling u) → (if b then replay (step_result s t) steps else None) ≡ Some u → IsTiling u
    go true f ih g = ih (steps_keep_tilings s t k f) g
    go false f ih g = absurd cc

pub replays_keep_members : StepsKeepMembers → ReplaysKeepMembers
replays_keep_members keep [] t u k e = let same : t ≡ u = cc in rw (← same) (keeps_itself t)
replays_keep_members keep (s ∷ steps) t u k e = go (step_applies s t) refl (λ l f. replays_keep_members keep steps (step_result s t) u l f) e
  where
    go : (b : Bool) → step_applies s t ≡ b → (IsTiling (step_result s t) → replay (step_result s t) steps ≡ Some u → KeepsMembers (rename_all steps) (step_result s t) u)
        → (if b then replay (step_result s t) steps else None) ≡ Some u → KeepsMembers (rename_all (s ∷ steps)) t u
    go true f ih g = one_after (rename s) (rename_all steps) t (step_result s t) u (keep s t k f) (ih (steps_keep_tilings s t k f) g)
    go false f ih g = absurd cc

pub traces_end : TracesEndNormal
traces_end t [] k m = record { end = t; replayed = refl; normal = none_applies t k (at_end m) }
traces_end t (s ∷ steps) k m =
    let b = begins m in
    let a = first_applies t s b.0 in
    let rest = traces_end (step_result s t) steps (steps_keep_tilings s t k a) b.1 in
    record { end = rest.end; replayed = rw a rest.replayed; normal = rest.normal }
