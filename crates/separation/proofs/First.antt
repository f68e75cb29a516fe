-- The points of a set of cells of a line come first exactly where no other cell is bound to one of them.
use Rattle.std.proofs.Common.{◌≡◌, ℕ, Bool, true, false, List, refl, sym, ap, ◌∙◌, subst, ⊎_elim}
use Rattle.std.specs.Prelude.{◌&&◌, ◌||◌, not}
use Rattle.std.specs.List.{list_all, list_any}
use Rattle.std.proofs.lemmas.Bool.{and_parts, or_cases}
use Rattle.lists.specs.Members.{IsIn, is_nil}
use Rattle.lists.proofs.Members.{IsIn-filter}
use Rattle.lists.proofs.Tests.{same_test, each_passes, all_pass, some_passes, no_pass}
use Rattle.gridded.specs.declared.axis.Axis.{Axis}
use Rattle.gridded.specs.declared.cell.Cell.{Cell}
use Rattle.gridded.specs.Axes.{is_on}
use Rattle.gridded.specs.Orders.{cell_eq}
use Rattle.gridded.specs.OrderLaws.{cell_eq_decides}
use Rattle.gridded.specs.CellSets.{is_among as has_cell}
use Rattle.gridded.specs.CellSetOrder.{set_eq, set_eq_decides}
use Rattle.gridded.proofs.CellSets.{in_set, has_in}
use Rattle.tiling_core.specs.Tiles.{Tiles}
use Rattle.tiling_core.specs.Patterns.{forbids}
use Rattle.tiling_core.proofs.GridCells.{same_set}
use Rattle.rule_kinds.specs.Lines.{active_on}
use Rattle.rule_kinds.specs.Conditions.{before, comes_first, is_proper_part}
use Rattle.rule_kinds.specs.Choices.{is_bound, grown}
use Rattle.separation.specs.OnLines.{IsOfLine}
use Rattle.separation.proofs.OnLines.{of_line_filter}

module _ (a : Axis) (t : Tiles) (i : ℕ) (set : List Cell) (w : IsOfLine a i (active_on a i t)) (s : IsOfLine a i set) (within : list_all (has_cell (active_on a i t)) set ≡ true) where
  abbrev whole : List Cell
  whole = active_on a i t

  abbrev link : Cell → Cell → Bool
  link = is_bound a t

  -- whether a cell is in the set or bound to one of its cells
  abbrev is_reached : Cell → Bool
  is_reached d = list_any (λ c. cell_eq c d || link c d) set

  tested : comes_first a t i set ≡ true → (l u : Cell) → IsIn l set → IsIn u whole → (has_cell set u || forbids t (before a u l)) ≡ true
  tested e l u m n = each_passes (λ v. has_cell set v || forbids t (before a v l)) (each_passes (λ c. list_all (λ v. has_cell set v || forbids t (before a v c)) whole) e m) n

  not_bound : (b f : Bool) → b ≡ false → (b || f) ≡ true → not f ≡ true → ⊥
  not_bound true f e g h = cc
  not_bound false true e g h = cc
  not_bound false false e g h = cc

  none_else : comes_first a t i set ≡ true → (d : Cell) → has_cell set d ≡ false → has_cell whole d ≡ true → is_reached d ≡ false
  none_else e d out m =
      no_pass (λ c. cell_eq c d || link c d) set (λ c n f. ⊎_elim {C = ⊥}
      (λ same. clash (sym out ∙ has_in set d (subst (λ z. IsIn z set) ((cell_eq_decides c d).0 same) n)))
      (λ bound. not_bound (has_cell set d) (forbids t (before a d c)) out (tested e c d n (in_set whole d m)) bound)
      (or_cases (cell_eq c d) (link c d) f))
    where
      clash : false ≡ true → ⊥
      clash g = cc

  agrees : comes_first a t i set ≡ true → (d : Cell) → (b c : Bool) → has_cell set d ≡ b → has_cell whole d ≡ c → (c && is_reached d) ≡ b
  agrees e d true true f g = some_passes (λ c. cell_eq c d || link c d) (in_set set d f) (let h : cell_eq d d ≡ true = (cell_eq_decides d d).1 refl in rw h refl)
  agrees e d true false f g = absurd (clash (sym g ∙ each_passes (has_cell whole) within (in_set set d f)))
    where
      clash : false ≡ true → ⊥
      clash h = cc
  agrees e d false true f g = none_else e d f g
  agrees e d false false f g = refl

  grown_same : comes_first a t i set ≡ true → grown link whole set ≡ set
  grown_same e =
      of_line_filter a i whole is_reached w
      ∙ same_set (λ d. is_on a i d && (has_cell whole d && is_reached d)) (λ d. is_on a i d && has_cell set d) (λ d m. ap (λ b. is_on a i d && b) (agrees e d (has_cell set d) (has_cell whole d) refl refl))
      ∙ sym s

  in_or_forbidden : grown link whole set ≡ set → (l u : Cell) → IsIn l set → IsIn u whole → (f : Bool) → forbids t (before a u l) ≡ f → (has_cell set u || f) ≡ true
  in_or_forbidden e l u m n true f = by (has_cell set u)
    where
      by : (b : Bool) → (b || true) ≡ true
      by true = refl
      by false = refl
  in_or_forbidden e l u m n false f =
      let bound : (cell_eq l u || link l u) ≡ true = by (cell_eq l u) (ap not f) in
      let there : IsIn u (grown link whole set) = IsIn-filter is_reached n (some_passes (λ c. cell_eq c u || link c u) m bound) in
      rw (has_in set u (subst (λ z. IsIn u z) e there)) refl
    where
      by : (b : Bool) → link l u ≡ true → (b || link l u) ≡ true
      by true g = refl
      by false g = g

  pub first_by_grown : set_eq (grown link whole set) set ≡ comes_first a t i set
  first_by_grown = same_test (set_eq (grown link whole set) set) (comes_first a t i set)
      (λ e. all_pass (λ l. list_all (λ u. has_cell set u || forbids t (before a u l)) whole) set (λ l m. all_pass (λ u. has_cell set u || forbids t (before a u l)) whole
      (λ u n. in_or_forbidden ((set_eq_decides (grown link whole set) set).0 e) l u m n (forbids t (before a u l)) refl)))
      (λ e. (set_eq_decides (grown link whole set) set).1 (grown_same e))

pub part_within : (set whole : List Cell) → is_proper_part set whole ≡ true → list_all (has_cell whole) set ≡ true
part_within set whole e = (and_parts (not (is_nil set)) (list_all (has_cell whole) set) (and_parts (not (is_nil set) && list_all (has_cell whole) set) (not (list_all (has_cell set) whole)) e).0).1

pub first_found : (a : Axis) (t : Tiles) (i : ℕ) (whole set larger : List Cell) (answer : Bool) → whole ≡ active_on a i t → IsOfLine a i whole → IsOfLine a i set → is_proper_part set whole ≡ true → larger ≡ grown (is_bound a t) whole set → answer ≡ set_eq larger set → answer ≡ comes_first a t i set
first_found a t i line set larger answer v w s p e f =
    f ∙ ap (λ z. set_eq z set) (e ∙ ap (λ z. grown (is_bound a t) z set) v)
    ∙ first_by_grown a t i set (subst (λ z. IsOfLine a i z) v w) s (part_within set (active_on a i t) (subst (λ z. is_proper_part set z ≡ true) v p))
