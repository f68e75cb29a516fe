-- The first step of a tiling, by what is left of it where obstructions that hold others are left out.
use Rattle.std.proofs.Common.{◌≡◌, ◌<◌, Bool, true, false, List, [], ◌∷◌, refl, sym, ap, ◌∙◌, subst, arith}
use Rattle.std.specs.Prelude.{◌&&◌, ◌||◌, not, nat_lt}
use Rattle.std.specs.List.{list_any}
use Rattle.std.proofs.lemmas.Bool.Decides.{nat_tests}
use Rattle.std.proofs.lemmas.Bool.{and_parts, not_from_false}
use Rattle.lists.specs.Members.{IsIn, is_nil}
use Rattle.lists.proofs.Members.{of_all, IsIn-filter, from_IsIn-filter}
use Rattle.lists.proofs.Tests.{same_test, some_passes, which_passes, none_passes, no_pass}
use Rattle.lists.proofs.Filters.{filter_all}
use Rattle.gridded.specs.Grids.{Point, holds}
use Rattle.gridded.specs.Orders.{gridded_eq}
use Rattle.gridded.specs.OrderLaws.{gridded_eq_decides}
use Rattle.gridded.specs.Places.{fits_grid}
use Rattle.gridded.proofs.Holding.{holds_shorter}
use Rattle.tiling_core.specs.Tiles.{Tiles, IsTiling, tiling_of}
use Rattle.tiling_core.specs.Patterns.{is_among, forbids, holds_another, minimal}
use Rattle.tiling_core.specs.Same.{tiles_eq, tiles_eq_decides}
use Rattle.tiling_core.specs.Roots.{void_tiling}
use Rattle.steps.specs.declared.Step.TheVariants.{Min, Void}
use Rattle.steps.specs.Steps.{step_applies, step_result, is_hopeless}
use Rattle.steps.proofs.Shrinks.{tiling_of_itself}
use Rattle.normal_form.specs.Reached.{IsReached}
use Rattle.normal_form.specs.Thinned.{IsThinned}
use Rattle.normal_form.proofs.Firsts.{by_kind}
use Rattle.normal_form.proofs.Knowing.{min_is_done}
use Rattle.normal_form.proofs.Reached.{reached_itself, reached_next}
use Rattle.normal_form.proofs.Thinning.{is_other}

-- ---- hopeless
-- the empty pattern holds no other
holds_no_other : (xs : List (List Point)) → holds_another xs [] ≡ false
holds_no_other xs = no_pass (is_other []) xs (λ p m e. let a = and_parts (not (gridded_eq [] p)) (holds [] p) e in none p a.0 a.1)
  where
    none : (p : List Point) → not (gridded_eq [] p) ≡ true → holds [] p ≡ true → ⊥
    none [] e f = cc
    none (q ∷ p) e f = omega (arith, holds_shorter [] (q ∷ p) f)

empty_is_least : (xs : List (List Point)) → is_among (minimal xs) [] ≡ is_among xs []
empty_is_least xs = same_test (is_among (minimal xs) []) (is_among xs [])
    (λ e. let w = which_passes (gridded_eq []) (minimal xs) e in some_passes (gridded_eq []) (from_IsIn-filter test xs w.1).0 w.2)
    (λ e.
    let w = which_passes (gridded_eq []) xs e in
    let same = (gridded_eq_decides [] w.0).0 w.2 in
    some_passes (gridded_eq []) (IsIn-filter test w.1 (not_from_false (holds_another xs w.0) (subst (λ (g : List Point). holds_another xs g ≡ false) same (holds_no_other xs)))) w.2)
  where
    test : List Point → Bool
    test g = not (holds_another xs g)

-- ---- Void
-- a tiling without cells has at most the empty pattern
no_cells : (t : Tiles) → IsTiling t → t.width ≡ 0 → t.height ≡ 0 → step_applies Min t ≡ true → ⊥
unfolding step_applies
no_cells t k w h e =
    let a = which_passes (holds_another t.obstructions) t.obstructions e in
    let b = which_passes (is_other a.0) t.obstructions a.2 in
    apart a.0 b.0 (inside a.1) (inside b.1) (and_parts (not (gridded_eq a.0 b.0)) (holds a.0 b.0) b.2).0
  where
    inside : {g : List Point} → IsIn g t.obstructions → fits_grid 0 0 g ≡ true
    inside {g} m =
        let fits : fits_grid t.width t.height g ≡ true = of_all (λ (p : List Point). fits_grid t.width t.height p ≡ true) k.obstructions_in m in
        subst (λ n. fits_grid 0 n g ≡ true) h (subst (λ n. fits_grid n t.height g ≡ true) w fits)

    outside : (q : Point) (g : List Point) → fits_grid 0 0 (q ∷ g) ≡ true → ⊥
    outside q g f =
        let cell = and_parts (nat_lt q.cell.x 0 && nat_lt q.cell.y 0) (fits_grid 0 0 g) f in
        let left = and_parts (nat_lt q.cell.x 0) (nat_lt q.cell.y 0) cell.0 in
        let l : q.cell.x < 0 = grind (arith, nat_tests, left.0) in
        omega (arith, l)

    apart : (g p : List Point) → fits_grid 0 0 g ≡ true → fits_grid 0 0 p ≡ true → not (gridded_eq g p) ≡ true → ⊥
    apart [] [] i j f = cc
    apart (q ∷ g) p i j f = outside q g i
    apart [] (q ∷ p) i j f = outside q p j

module _ (t u : Tiles) (k : IsTiling t) (thin : IsThinned t u true) where
  same_hope : is_hopeless t ≡ is_hopeless u
  same_hope =
      let lists : list_any is_nil t.requirements ≡ list_any is_nil u.requirements = ap (λ ls. list_any is_nil ls) (sym thin.requirements) in
      let empty : forbids t [] ≡ forbids u [] = sym (empty_is_least t.obstructions) ∙ ap (λ (ps : List (List Point)). is_among ps []) (sym thin.least) ∙ empty_is_least u.obstructions in
      λ i. lists i || empty i

  -- neither is the void tiling
  neither_void : tiles_eq t void_tiling ≡ tiles_eq u void_tiling
  neither_void = first (tiles_eq t void_tiling) refl ∙ sym (second (tiles_eq u void_tiling) refl)
    where
      first : (b : Bool) → tiles_eq t void_tiling ≡ b → tiles_eq t void_tiling ≡ false
      first false f = f
      first true f = let same = (tiles_eq_decides t void_tiling).0 f in absurd (no_cells t k (ap (λ (s : Tiles). s.width) same) (ap (λ (s : Tiles). s.height) same) (thin.some refl))

      second : (b : Bool) → tiles_eq u void_tiling ≡ b → tiles_eq u void_tiling ≡ false
      second false f = f
      second true f =
          let same = (tiles_eq_decides u void_tiling).0 f in
          absurd (no_cells t k (sym thin.width ∙ ap (λ (s : Tiles). s.width) same) (sym thin.height ∙ ap (λ (s : Tiles). s.height) same) (thin.some refl))

  same_void : step_applies Void t ≡ step_applies Void u
  unfolding step_applies
  same_void = λ i. same_hope i && not (neither_void i)

  same_result : step_result Void u ≡ step_result Void t
  unfolding step_result
  same_result = refl

  pub by_void : (v : Tiles) → step_applies Void u ≡ true → v ≡ step_result Void u → IsReached t (Void ∷ []) v
  by_void v a same = reached_next t [] t v Void (reached_itself t) (by_kind t ∙ rw (same_void ∙ a) refl) (same ∙ same_result)

  -- ---- Min
  same_least : step_result Min u ≡ step_result Min t
  unfolding step_result
  same_least = λ i. tiling_of (thin.width i) (thin.height i) (thin.least i) (thin.requirements i)

  pub by_min : (v : Tiles) → step_applies Void u ≡ false → v ≡ step_result Min u → IsReached t (Min ∷ []) v
  by_min v a same = reached_next t [] t v Min (reached_itself t) (by_kind t ∙ rw (same_void ∙ a, thin.some refl) refl) (same ∙ same_least)

-- where Min doesn't apply it would change nothing
pub minimal_stays : (u : Tiles) → IsTiling u → step_applies Min u ≡ false → u ≡ step_result Min u
unfolding step_applies step_result
minimal_stays u k e =
    let same : minimal u.obstructions ≡ u.obstructions = filter_all (λ g. not (holds_another u.obstructions g)) u.obstructions (λ g m. not_from_false (holds_another u.obstructions g) (none_passes (holds_another u.obstructions) u.obstructions e m)) in
    sym (ap (λ (ps : List (List Point)). tiling_of u.width u.height ps u.requirements) same ∙ tiling_of_itself u k)

-- what Min leaves holds no other
pub minimal_then : (u v : Tiles) → IsTiling u → v ≡ step_result Min u → step_applies Min v ≡ false
minimal_then u v k same = subst (λ (w : Tiles). step_applies Min w ≡ false) (sym same) (min_is_done u k)
