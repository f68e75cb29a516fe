-- Growing a set by what is linked to it.
use Rattle.std.proofs.Common.{◌≡◌, ◌<◌, ℕ, Bool, true, false, List, [], refl, sym, ap, ◌∙◌, subst, ⊎_elim, arith}
use Rattle.std.specs.Prelude.{◌||◌, ◌&&◌, ◌==◌, map, nat_lt}
use Rattle.std.specs.List.{filter, list_any, range_with_len}
use Rattle.std.proofs.lemmas.Bool.Decides.{Decides-eqb, nat_tests}
use Rattle.std.proofs.lemmas.Bool.{or_cases, or_left, or_right, and_parts, and_from}
use Rattle.lists.specs.Members.{IsIn}
use Rattle.lists.proofs.Ranges.{in_range_with_len}
use Rattle.lists.proofs.Filters.{filter-filter, filter-agree, filter-none}
use Rattle.lists.proofs.Tests.{same_test, some_passes, which_passes}
use Rattle.gridded.specs.declared.cell.Cell.{Cell}
use Rattle.gridded.specs.Axes.{shares_line}
use Rattle.gridded.specs.CellSets.{is_among, cells_that, IsCellSet, bit_of}
use Rattle.gridded.specs.Grids.{Point, cells_in}
use Rattle.gridded.specs.Orders.{cell_eq}
use Rattle.gridded.specs.OrderLaws.{cell_eq_decides}
use Rattle.gridded.specs.Places.{touches}
use Rattle.gridded.proofs.CellSets.{in_set, has_in}
use Rattle.tiling_core.specs.Tiles.{Tiles}
use Rattle.tiling_core.proofs.GridCells.{same_set}
use Rattle.tiling_core.specs.Patterns.{active_cells}
use Rattle.rule_kinds.specs.Conditions.{bundles}
use Rattle.rule_kinds.specs.Choices.{grown, is_linked}
use Rattle.factoring.specs.Tied.{is_tied, has_at, is_next}
use Rattle.factoring.proofs.Numbers.{below_eight}

-- ---- a set meets a cell's lines
same_number : (a b : ℕ) → (a == b) ≡ true → a ≡ b
same_number a b e = (Decides-eqb a b).0 e

pub on_lines : (set : List Cell) (c : Cell) → IsCellSet set → list_any (has_at set c) (range_with_len 0 8) ≡ list_any (λ d. shares_line d c) set
on_lines set c s = same_test (list_any (has_at set c) (range_with_len 0 8)) (list_any (λ d. shares_line d c) set) to from
  where
    column : ℕ → Cell
    column k = record { x = c.x; y = k }

    row : ℕ → Cell
    row k = record { x = k; y = c.y }

    to : list_any (has_at set c) (range_with_len 0 8) ≡ true → list_any (λ d. shares_line d c) set ≡ true
    to e =
        let k = which_passes (has_at set c) (range_with_len 0 8) e in
        ⊎_elim {C = list_any (λ d. shares_line d c) set ≡ true}
        (λ f. some_passes (λ d. shares_line d c) (in_set set (column k.0) f) (or_left (c.x == c.x) (k.0 == c.y) ((Decides-eqb c.x c.x).1 refl)))
        (λ f. some_passes (λ d. shares_line d c) (in_set set (row k.0) f) (or_right (k.0 == c.x) (c.y == c.y) ((Decides-eqb c.y c.y).1 refl)))
        (or_cases (is_among set (column k.0)) (is_among set (row k.0)) k.2)

    from : list_any (λ d. shares_line d c) set ≡ true → list_any (has_at set c) (range_with_len 0 8) ≡ true
    from e =
        let k = which_passes (λ d. shares_line d c) set e in
        let low = below_eight set k.0 s k.1 in
        ⊎_elim {C = list_any (has_at set c) (range_with_len 0 8) ≡ true}
        (λ f. let x = same_number k.0.x c.x f in
        let same : k.0 ≡ column k.0.y = λ i. record { x = x i; y = k.0.y } in
        some_passes (has_at set c) (in_range_with_len 0 8 k.0.y (omega arith) (omega (arith, low.1))) (or_left (is_among set (column k.0.y)) (is_among set (row k.0.y)) (has_in set (column k.0.y) (subst (λ (d : Cell). IsIn d set) same k.1))))
        (λ f. let y = same_number k.0.y c.y f in
        let same : k.0 ≡ row k.0.x = λ i. record { x = k.0.x; y = y i } in
        some_passes (has_at set c) (in_range_with_len 0 8 k.0.x (omega arith) (omega (arith, low.0))) (or_right (is_among set (column k.0.x)) (is_among set (row k.0.x)) (has_in set (row k.0.x) (subst (λ (d : Cell). IsIn d set) same k.1))))
        (or_cases (k.0.x == c.x) (k.0.y == c.y) k.2)

-- ---- one round
module _ (t : Tiles) (set tied : List Cell) (ties : (test : Cell → Bool) → list_any test tied ≡ list_any (is_tied set test) (bundles t)) where
  abbrev in_bundle : Cell → Cell → Bool
  in_bundle e d = list_any (λ bundle. list_any (touches (cell_eq e)) bundle && list_any (touches (cell_eq d)) bundle) (bundles t)

  abbrev joins : Cell → Bool
  joins d = list_any (λ e. cell_eq e d || is_linked t e d) set

  to_joins : (d : Cell) → (is_among tied d || list_any (λ e. shares_line e d) set) ≡ true → joins d ≡ true
  to_joins d h = ⊎_elim {C = joins d ≡ true} by_bundle by_line (or_cases (is_among tied d) (list_any (λ e. shares_line e d) set) h)
    where
      linked_by : (e : Cell) → IsIn e set → is_linked t e d ≡ true → joins d ≡ true
      linked_by e m l = some_passes (λ (x : Cell). cell_eq x d || is_linked t x d) m (or_right (cell_eq e d) (is_linked t e d) l)

      by_line : list_any (λ e. shares_line e d) set ≡ true → joins d ≡ true
      by_line f = let k = which_passes (λ e. shares_line e d) set f in linked_by k.0 k.1 (or_left (shares_line k.0 d) (in_bundle k.0 d) k.2)

      by_bundle : is_among tied d ≡ true → joins d ≡ true
      by_bundle f =
          let b = which_passes (is_tied set (cell_eq d)) (bundles t) (sym (ties (cell_eq d)) ∙ f) in
          let both = and_parts (list_any (touches (is_among set)) b.0) (list_any (touches (cell_eq d)) b.0) b.2 in
          let p = which_passes (touches (is_among set)) b.0 both.0 in
          let c = which_passes (is_among set) (map (λ (q : Point). q.cell) p.0) p.2 in
          linked_by c.0 (in_set set c.0 c.2) (or_right (shares_line c.0 d) (in_bundle c.0 d)
          (some_passes (λ bundle. list_any (touches (cell_eq c.0)) bundle && list_any (touches (cell_eq d)) bundle) b.1
          (and_from (list_any (touches (cell_eq c.0)) b.0) (list_any (touches (cell_eq d)) b.0) (some_passes (touches (cell_eq c.0)) p.1 (some_passes (cell_eq c.0) c.1 ((cell_eq_decides c.0 c.0).1 refl))) both.1)))

  from_joins : (d : Cell) → joins d ≡ true → (is_among tied d || list_any (λ e. shares_line e d) set) ≡ true
  from_joins d h =
      let e = which_passes (λ (x : Cell). cell_eq x d || is_linked t x d) set h in
      ⊎_elim {C = (is_among tied d || list_any (λ x. shares_line x d) set) ≡ true}
      (λ f. by_line e.0 e.1 (subst (λ (x : Cell). shares_line x d ≡ true) (sym ((cell_eq_decides e.0 d).0 f)) (or_left (d.x == d.x) (d.y == d.y) ((Decides-eqb d.x d.x).1 refl))))
      (λ f. ⊎_elim {C = (is_among tied d || list_any (λ x. shares_line x d) set) ≡ true} (by_line e.0 e.1) (by_bundle e.0 e.1) (or_cases (shares_line e.0 d) (in_bundle e.0 d) f))
      (or_cases (cell_eq e.0 d) (is_linked t e.0 d) e.2)
    where
      by_line : (e : Cell) → IsIn e set → shares_line e d ≡ true → (is_among tied d || list_any (λ x. shares_line x d) set) ≡ true
      by_line e m l = or_right (is_among tied d) (list_any (λ x. shares_line x d) set) (some_passes (λ x. shares_line x d) m l)

      by_bundle : (e : Cell) → IsIn e set → in_bundle e d ≡ true → (is_among tied d || list_any (λ x. shares_line x d) set) ≡ true
      by_bundle e m l =
          let b = which_passes (λ bundle. list_any (touches (cell_eq e)) bundle && list_any (touches (cell_eq d)) bundle) (bundles t) l in
          let both = and_parts (list_any (touches (cell_eq e)) b.0) (list_any (touches (cell_eq d)) b.0) b.2 in
          let p = which_passes (touches (cell_eq e)) b.0 both.0 in
          let c = which_passes (cell_eq e) (map (λ (q : Point). q.cell) p.0) p.2 in
          let among : is_among set c.0 ≡ true = has_in set c.0 (subst (λ (x : Cell). IsIn x set) ((cell_eq_decides e c.0).0 c.2) m) in
          or_left (is_among tied d) (list_any (λ x. shares_line x d) set)
          (ties (cell_eq d) ∙ some_passes (is_tied set (cell_eq d)) b.1 (and_from (list_any (touches (is_among set)) b.0) (list_any (touches (cell_eq d)) b.0) (some_passes (touches (is_among set)) p.1 (some_passes (is_among set) c.1 among)) both.1))

  pub grown_is : (active : List Cell) → active ≡ active_cells t → IsCellSet active → cells_that (is_next active tied set) ≡ grown (is_linked t) (active_cells t) set
  unfolding cells_that
  grown_is active a s =
      sym (filter-filter (λ d. is_among tied d || list_any (λ e. shares_line e d) set) (is_among active) (cells_in 8 8))
      ∙ ap (λ (cells : List Cell). filter (λ d. is_among tied d || list_any (λ e. shares_line e d) set) cells) (sym s ∙ a)
      ∙ filter-agree (λ d. is_among tied d || list_any (λ e. shares_line e d) set) joins (active_cells t)
      (λ d m. same_test (is_among tied d || list_any (λ e. shares_line e d) set) (joins d) (to_joins d) (from_joins d))

-- ---- cells number by number
none_below : (n : ℕ) → nat_lt n 0 ≡ false
none_below n = grind (arith, nat_tests)

pub none_numbered : (test : Cell → Bool) → [] ≡ cells_that (λ c. nat_lt (bit_of c) 0 && test c)
unfolding cells_that
none_numbered test = sym (filter-none (λ c. nat_lt (bit_of c) 0 && test c) (cells_in 8 8) (λ c m. rw (none_below (bit_of c)) refl))

all_below : (n : ℕ) → n < 64 → nat_lt n 64 ≡ true
all_below n h = grind (arith, nat_tests)

pub all_numbers : (test : Cell → Bool) (number : ℕ) (set : List Cell) → number ≡ 64 → set ≡ cells_that (λ c. nat_lt (bit_of c) number && test c) → set ≡ cells_that test
all_numbers test number set last e =
    e ∙ ap (λ n. cells_that (λ c. nat_lt (bit_of c) n && test c)) last
    ∙ same_set (λ c. nat_lt (bit_of c) 64 && test c) test (λ c k. ap (λ b. b && test c) (all_below (bit_of c) (omega (arith, k.0, k.1))))
