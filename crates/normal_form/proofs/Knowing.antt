-- What the first step that applies tells of the tiling that it leaves.
use Rattle.std.proofs.Common.{◌≡◌, ℕ, Bool, true, false, cond, List, refl, sym, ◌∙◌, subst}
use Rattle.std.specs.Prelude.{◌&&◌, not, Option, Some, None, find}
use Rattle.std.specs.List.{list_any}
use Rattle.std.specs.Option.{option_or}
use Rattle.std.proofs.lemmas.List.Kept.{IsStrictlySortedBy-filter}
use Rattle.std.proofs.lemmas.Bool.{and_parts as and_true, not-true as not_true}
use Rattle.gridded.specs.declared.Axis.TheVariants as axis
use Rattle.gridded.specs.declared.Cell.{Cell}
use Rattle.gridded.specs.Grids.{Point, holds, cells_in}
use Rattle.gridded.specs.Orders.{gridded_cmp, gridded_eq}
use Rattle.tiling_core.specs.Tiles.{Tiles, IsTiling}
use Rattle.tiling_core.specs.Patterns.{holds_another, minimal}
use Rattle.steps.specs.declared.Step.{Step}
use Rattle.steps.specs.declared.Step.TheVariants.{Min, Clean, Lists, Column, Row, Void}
use Rattle.steps.specs.Steps.{step_applies, step_result, is_isolated, can_be_cleaned}
use Rattle.steps.specs.Traces.{first_step}
use Rattle.steps.proofs.ListTests.{some_passes, which_passes}
use Rattle.steps.proofs.Shrinks.{ascending_list}
use Rattle.normal_form.specs.Known.{OnlyLines, IsKnown, known_after}
use Rattle.normal_form.proofs.Found.{found_is_in, none_found, none_to_find}
use Rattle.normal_form.proofs.Firsts.{by_kind}
use Rattle.normal_form.proofs.Tracing.{first_applies, cleanings, columns, rows, clean_in_grid}
use Rattle.normal_form.proofs.Tilings.{steps_keep_tilings}
use Rattle.normal_form.proofs.LinesAlone.{only_lines_still}
use Rattle.lists.specs.Members.{IsIn}
use Rattle.lists.proofs.Members.{IsIn-map, from_IsIn-map, from_IsIn-filter}

-- ---- obstructions
-- what is left of obstructions that hold no other
none_left : (xs ys : List (List Point)) → ((g : List Point) → IsIn g ys → IsIn g xs × (holds_another xs g ≡ false)) → list_any (holds_another ys) ys ≡ false
none_left xs ys h = go (list_any (holds_another ys) ys) refl
  where
    go : (b : Bool) → list_any (holds_another ys) ys ≡ b → list_any (holds_another ys) ys ≡ false
    go false e = e
    go true e =
        let w = which_passes (holds_another ys) ys e in
        let v = which_passes (λ p. not (gridded_eq w.0 p) && holds w.0 p) ys w.2 in
        let held = some_passes (λ p. not (gridded_eq w.0 p) && holds w.0 p) (h v.0 v.1).0 v.2 in
        let none = (h w.0 w.1).1 in
        absurd cc

pub min_is_done : (t : Tiles) → IsTiling t → step_applies Min (step_result Min t) ≡ false
unfolding step_applies step_result
min_is_done t k =
    let ascends = IsStrictlySortedBy-filter gridded_cmp (λ g. not (holds_another t.obstructions g)) t.obstructions k.obstructions_ascend in
    subst (λ (os : List (List Point)). list_any (holds_another os) os ≡ false) (sym (ascending_list (minimal t.obstructions) ascends))
    (none_left t.obstructions (minimal t.obstructions) (λ g m. let w = from_IsIn-filter (λ h. not (holds_another t.obstructions h)) t.obstructions m in (w.0, not_true (holds_another t.obstructions g) w.1)))

lists_keep_minimal : (t : Tiles) → IsTiling t → step_applies Min t ≡ false → step_applies Min (step_result Lists t) ≡ false
unfolding step_applies step_result
lists_keep_minimal t k e = subst (λ (os : List (List Point)). list_any (holds_another os) os ≡ false) (sym (ascending_list t.obstructions k.obstructions_ascend)) e

-- ---- steps before the first
-- the kinds that are tried before
not_first : (b : Bool) (x s : Step) (rest : Option Step) → (x ≡ s → ⊥) → cond b (Some x) rest ≡ Some s → (b ≡ false) × (rest ≡ Some s)
not_first true x s rest n e = absurd (n (let same : x ≡ s = cc in same))
not_first false x s rest n e = (refl, e)

not_found : (o : Option Step) (s : Step) (rest : Option Step) → ((r : Step) → o ≡ Some r → r ≡ s → ⊥) → option_or o rest ≡ Some s → (o ≡ None) × (rest ≡ Some s)
not_found (Some r) s rest n e = absurd (n r refl (let same : r ≡ s = cc in same))
not_found None s rest n e = (refl, e)

no_cleaning : (t : Tiles) → IsTiling t → find (λ r. step_applies r t) (cleanings t) ≡ None → (c : Cell) → step_applies (Clean c) t ≡ false
unfolding step_applies
no_cleaning t k e c = go (step_applies (Clean c) t) refl
  where
    go : (b : Bool) → step_applies (Clean c) t ≡ b → step_applies (Clean c) t ≡ false
    go false f = f
    go true f = none_found (λ r. step_applies r t) e (IsIn-map (λ d. Clean d) (clean_in_grid c t k (and_true (is_isolated t c) (can_be_cleaned t c) f).0))

-- a step that is none of the first kinds
pub record IsLine (s : Step) : Type 0 where
  pub not_void : Void ≡ s → ⊥
  pub not_min : Min ≡ s → ⊥
  pub not_clean : (c : Cell) → Clean c ≡ s → ⊥
  pub not_lists : Lists ≡ s → ⊥

only_lines_before : (t : Tiles) (s : Step) → IsTiling t → IsLine s → first_step t ≡ Some s → OnlyLines t
only_lines_before t s k n e =
    let later = option_or (find applies (columns t)) (find applies (rows t)) in
    let a = not_first (step_applies Void t) Void s _ n.not_void (sym (by_kind t) ∙ e) in
    let b = not_first (step_applies Min t) Min s _ n.not_min a.1 in
    let c = not_found (find applies (cleanings t)) s (cond (step_applies Lists t) (Some Lists) later) found b.1 in
    let d = not_first (step_applies Lists t) Lists s later n.not_lists c.1 in
    record { void = a.0; min = b.0; clean = no_cleaning t k c.0; lists = d.0 }
  where
    applies : Step → Bool
    applies r = step_applies r t

    found : (r : Step) → find applies (cleanings t) ≡ Some r → r ≡ s → ⊥
    found r f same = let w = from_IsIn-map (λ c. Clean c) (cells_in t.width t.height) (found_is_in applies (cleanings t) r f) in n.not_clean w.0 (sym w.2 ∙ same)

column_is_line : (x : ℕ) → IsLine (Column x)
column_is_line x = record { not_void = λ e. cc; not_min = λ e. cc; not_clean = λ c e. cc; not_lists = λ e. cc }

row_is_line : (y : ℕ) → IsLine (Row y)
row_is_line y = record { not_void = λ e. cc; not_min = λ e. cc; not_clean = λ c e. cc; not_lists = λ e. cc }

minimal_before_lists : (t : Tiles) → first_step t ≡ Some Lists → step_applies Min t ≡ false
minimal_before_lists t e =
    let a = not_first (step_applies Void t) Void Lists _ (λ h. cc) (sym (by_kind t) ∙ e) in
    (not_first (step_applies Min t) Min Lists _ (λ h. cc) a.1).0

-- where no other step applies, a column or a row comes first
pub only_lines : (t : Tiles) → OnlyLines t → first_step t ≡ option_or (find (λ s. step_applies s t) (columns t)) (find (λ s. step_applies s t) (rows t))
only_lines t o =
    by_kind t ∙ rw (o.void, o.min, none_to_find (λ s. step_applies s t) (cleanings t) (λ s m. none s (from_IsIn-map (λ c. Clean c) (cells_in t.width t.height) m)), o.lists) refl
  where
    none : (s : Step) → (c : Cell) × IsIn c (cells_in t.width t.height) × (s ≡ Clean c) → step_applies s t ≡ false
    none s w = rw w.2 (o.clean w.0)

-- ---- after the first
column_then : (t : Tiles) (x : ℕ) → IsTiling t → first_step t ≡ Some (Column x) → step_applies (Column x) t ≡ true → OnlyLines (step_result (Column x) t)
unfolding step_applies step_result
column_then t x k e a = only_lines_still axis.Column x t k a (steps_keep_tilings (Column x) t k a) (only_lines_before t (Column x) k (column_is_line x) e)

row_then : (t : Tiles) (y : ℕ) → IsTiling t → first_step t ≡ Some (Row y) → step_applies (Row y) t ≡ true → OnlyLines (step_result (Row y) t)
unfolding step_applies step_result
row_then t y k e a = only_lines_still axis.Row y t k a (steps_keep_tilings (Row y) t k a) (only_lines_before t (Row y) k (row_is_line y) e)

pub known_then : (t : Tiles) (s : Step) → IsTiling t → first_step t ≡ Some s → IsKnown (known_after s) (step_result s t)
known_then t Void k e = tt
known_then t Min k e = min_is_done t k
known_then t (Clean c) k e = tt
known_then t Lists k e = lists_keep_minimal t k (minimal_before_lists t e)
known_then t (Column x) k e = column_then t x k e (first_applies t (Column x) e)
known_then t (Row y) k e = row_then t y k e (first_applies t (Row y) e)
