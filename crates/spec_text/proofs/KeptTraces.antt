-- The steps of a trace that replays have digits for their columns and rows.
use Rattle.std.proofs.Common.{◌≡◌, ◌≤◌, ℕ, suc, Bool, true, false, List, [], ◌∷◌, length, map, refl, sym, ap, subst, arith}
use Rattle.std.specs.Prelude.{◌&&◌, nat_lt, zip, Option, Some, None, if◌then◌else◌}
use Rattle.std.specs.List.{list_all}
use Rattle.std.specs.Cmp.{first_so}
use Rattle.std.proofs.lemmas.Bool.{and_from}
use Rattle.std.proofs.lemmas.Grind.{common_steps}
use Rattle.std.proofs.lemmas.Option.{none-some}
use Rattle.lists.specs.Members.{IsIn}
use Rattle.lists.specs.Members.IsIn.{here, later}
use Rattle.lists.proofs.Members.{of_all}
use Rattle.lists.proofs.Tests.{which_passes}
use Rattle.gridded.specs.declared.cell.Cell.{Cell}
use Rattle.gridded.specs.Grids.{Point}
use Rattle.gridded.specs.Orders.{gridded_eq}
use Rattle.gridded.specs.OrderLaws.{gridded_eq_decides}
use Rattle.gridded.specs.Places.{fits_grid}
use Rattle.gridded.specs.Small.{rising}
use Rattle.tiling_core.specs.Tiles.{Tiles, IsTiling}
use Rattle.tiling_core.specs.Patterns.{forbids}
use Rattle.steps.specs.declared.step.Step.{Step}
use Rattle.steps.specs.declared.step.Step.TheVariants as steps
use Rattle.steps.specs.Steps.{step_applies, step_result, is_isolated, can_be_cleaned}
use Rattle.steps.specs.Traces.{replay}
use Rattle.normal_form.proofs.Tilings.{steps_keep_tilings}
use Rattle.spec_lines.specs.Forms.{is_digit, is_cell, is_step}

-- a pattern that is forbidden lies in the grid
forbidden_fits : (t : Tiles) (g : List Point) → IsTiling t → forbids t g ≡ true → fits_grid t.width t.height g ≡ true
forbidden_fits t g k h =
    let found = which_passes (gridded_eq g) t.obstructions h in
    let same : g ≡ found.0 = (gridded_eq_decides g (found.0)).0 (found.2) in
    subst (λ x. fits_grid t.width t.height x ≡ true) (sym same) (of_all (λ x. fits_grid t.width t.height x ≡ true) k.obstructions_in (found.1))

low_cell : (w h : ℕ) (c : Cell) → w ≤ 8 → h ≤ 8 → fits_grid w h (rising c c) ≡ true → is_cell c ≡ true
low_cell w h c narrow low e =
    let first = first_so (nat_lt c.x w && nat_lt c.y h) (nat_lt c.x w && nat_lt c.y h && true) e in
    grind (arith, common_steps, narrow, low, first)

low_line : (n i : ℕ) → n ≤ 8 → nat_lt i n ≡ true → is_digit i ≡ true
low_line n i few h = grind (arith, common_steps, few, h)

-- a step that applies has a line
step_kept : (s : Step) (t : Tiles) → IsTiling t → step_applies s t ≡ true → is_step s ≡ true
unfolding step_applies
step_kept steps.Void t k h = refl
step_kept steps.Min t k h = refl
step_kept steps.Lists t k h = refl
step_kept (steps.Clean c) t k h =
    let isolated = first_so (is_isolated t c) (can_be_cleaned t c) h in
    low_cell t.width t.height c k.narrow k.low (forbidden_fits t (rising c c) k (first_so (forbids t (rising c c)) _ isolated))
step_kept (steps.Column x) t k h = low_line t.width x k.narrow (first_so (nat_lt x t.width) _ h)
step_kept (steps.Row y) t k h = low_line t.height y k.low (first_so (nat_lt y t.height) _ h)

step_then : (s : Step) (t u : Tiles) (trace : List Step) (b : Bool) → step_applies s t ≡ b → (if b then replay (step_result s t) trace else None) ≡ Some u → (step_applies s t ≡ true) × (replay (step_result s t) trace ≡ Some u)
step_then s t u trace true e h = (e, h)
step_then s t u trace false e h = absurd (none-some u h)

-- so each step of a trace that replays does
pub trace_kept : (trace : List Step) (t u : Tiles) → IsTiling t → replay t trace ≡ Some u → list_all is_step trace ≡ true
trace_kept [] t u k h = refl
trace_kept (s ∷ trace) t u k h =
    let both = step_then s t u trace (step_applies s t) refl h in
    and_from (is_step s) (list_all is_step trace) (step_kept s t k (both.0)) (trace_kept trace (step_result s t) u (steps_keep_tilings s t k (both.0)) (both.1))

abbrev replayed_all : List Tiles → List (List Step) → List (Option Tiles)
replayed_all raw traces = map (λ (p : Tiles × List Step). replay p.0 p.1) (zip raw traces)

first_of : (x y : Option Tiles) (xs ys : List (Option Tiles)) → x ∷ xs ≡ y ∷ ys → (x ≡ y) × (xs ≡ ys)
first_of x y xs ys h = (ap (λ zs. head_or zs) h, ap (λ zs. rest zs) h) where
  head_or : List (Option Tiles) → Option Tiles
  head_or [] = None
  head_or (z ∷ zs) = z

  rest : List (Option Tiles) → List (Option Tiles)
  rest [] = []
  rest (z ∷ zs) = zs

-- the traces of a rule's children, and how many there are
pub traces_kept : (raw : List Tiles) (traces : List (List Step)) (children : List Tiles) → ((t : Tiles) → IsIn t raw → IsTiling t) → length traces ≡ length raw → replayed_all raw traces ≡ map (λ t. Some t) children
    → (list_all (list_all is_step) traces ≡ true) × (length children ≡ length raw)
traces_kept [] [] [] tilings many h = (refl, refl)
traces_kept [] [] (u ∷ children) tilings many h = absurd (omega (arith, ap (λ (xs : List (Option Tiles)). length xs) h))
traces_kept [] (trace ∷ traces) children tilings many h = absurd (omega (arith, many))
traces_kept (t ∷ raw) [] children tilings many h = absurd (omega (arith, many))
traces_kept (t ∷ raw) (trace ∷ traces) [] tilings many h = absurd (omega (arith, ap (λ (xs : List (Option Tiles)). length xs) h))
traces_kept (t ∷ raw) (trace ∷ traces) (u ∷ children) tilings many h =
    let parts = first_of (replay t trace) (Some u) (replayed_all raw traces) (map (λ t. Some t) children) h in
    let rest = traces_kept raw traces children (λ x there. tilings x (later t there)) (omega (arith, many)) (parts.1) in
    (and_from (list_all is_step trace) (list_all (list_all is_step) traces) (trace_kept trace t u (tilings t here) (parts.0)) (rest.0), ap suc (rest.1))
