-- The four acts on requirement lists keep what meets them.
use Rattle.std.proofs.Common.{◌≡◌, Bool, true, false, cond, List, [], ◌∷◌, refl, ◌∙◌}
use Rattle.std.specs.Prelude.{not, map}
use Rattle.std.specs.List.{filter, list_any, AllByRecursion}
use Rattle.std.specs.List.Sorted.{IsStrictlySortedBy}
use Rattle.std.specs.declared.cmp.Ordering.{Ordering}
use Rattle.std.specs.declared.cmp.Ordering.TheVariants.{Less}
use Rattle.std.proofs.lemmas.List.Folds.{list_all-map}
use Rattle.std.proofs.lemmas.List.Kept.{IsStrictlySortedBy-filter}
use Rattle.std.proofs.lemmas.Bool.{not-true as not_true, not_from_false as not_false}
use Rattle.gridded.specs.Grids.{Point, holds}
use Rattle.gridded.specs.Orders.{gridded_eq, gridded_cmp}
use Rattle.gridded.specs.OrderLaws.{gridded_eq_decides}
use Rattle.tiling_core.specs.Patterns.{is_among, holds_another}
use Rattle.steps.specs.Steps.{useful, tidied}
use Rattle.steps.proofs.ListTests.{each_passes, all_pass, some_passes, which_passes, list_all-agree}
use Rattle.gridded.proofs.Holding.{holds_trans, holds_empty}
use Rattle.steps.proofs.Minimal.{EachGridded, holds_one_minimal, minimal_apart}
use Rattle.steps.proofs.Members.{meets_each, holds_none_of}
use Rattle.steps.proofs.Implied.{IsTidyList, meets_unimplied}
use Rattle.lists.proofs.Tests.{same_test}
use Rattle.lists.proofs.Members.{from_IsIn-filter, IsIn-filter, from_IsIn-map}
use Rattle.lists.specs.Members.{IsIn}

-- ---- what a filter leaves
gridded_filtered : (p : List Point → Bool) (patterns : List (List Point)) → EachGridded patterns → EachGridded (filter p patterns)
gridded_filtered p patterns k g m = k g (from_IsIn-filter p patterns m).0

-- ---- the first two acts
abbrev pub is_possible : List (List Point) → List Point → Bool
is_possible obstructions g = not (list_any (holds g) obstructions)

module _ (obstructions : List (List Point)) where
  is_tidy : (patterns : List (List Point)) → IsStrictlySortedBy gridded_cmp patterns → EachGridded patterns → IsTidyList (useful obstructions patterns)
  is_tidy patterns s k =
      let left = filter (is_possible obstructions) patterns in
      record {
        ascends = IsStrictlySortedBy-filter gridded_cmp (λ g. not (holds_another left g)) left (IsStrictlySortedBy-filter gridded_cmp (is_possible obstructions) patterns s);
        gridded = gridded_filtered (λ g. not (holds_another left g)) left (gridded_filtered (is_possible obstructions) patterns k);
        apart = λ g p m i e. minimal_apart left g p m (from_IsIn-filter (λ h. not (holds_another left h)) left i).0 e;
      }

  holds_possible : (patterns : List (List Point)) (g : List Point) → holds_none_of obstructions g ≡ true → list_any (holds g) (filter (is_possible obstructions) patterns) ≡ list_any (holds g) patterns
  holds_possible patterns g none = same_test (list_any (holds g) (filter (is_possible obstructions) patterns)) (list_any (holds g) patterns)
      (λ e. let w = which_passes (holds g) (filter (is_possible obstructions) patterns) e in some_passes (holds g) (from_IsIn-filter (is_possible obstructions) patterns w.1).0 w.2)
      (λ e. let w = which_passes (holds g) patterns e in some_passes (holds g) (IsIn-filter (is_possible obstructions) w.1 (possible w.0 w.2)) w.2)
    where
      possible : (p : List Point) → holds g p ≡ true → is_possible obstructions p ≡ true
      possible p e = go (list_any (holds p) obstructions) refl
        where
          go : (b : Bool) → list_any (holds p) obstructions ≡ b → is_possible obstructions p ≡ true
          go false f = not_false (list_any (holds p) obstructions) f
          go true f =
              let o = which_passes (holds p) obstructions f in
              let k = not_true (holds g o.0) (each_passes (λ q. not (holds g q)) none o.1) in
              let l = holds_trans g p o.0 e o.2 in
              absurd cc

  holds_useful : (patterns : List (List Point)) → EachGridded patterns → (g : List Point) → holds_none_of obstructions g ≡ true → list_any (holds g) (useful obstructions patterns) ≡ list_any (holds g) patterns
  holds_useful patterns k g none =
      holds_one_minimal (filter (is_possible obstructions) patterns) (gridded_filtered (is_possible obstructions) patterns k) g ∙ holds_possible patterns g none

  -- ---- the third act
  meets_without_empty : (lists : List (List (List Point))) (g : List Point) → meets_each (filter (λ patterns. not (is_among patterns [])) lists) g ≡ meets_each lists g
  meets_without_empty lists g = same_test (meets_each (filter (λ patterns. not (is_among patterns [])) lists) g) (meets_each lists g)
      (λ e. all_pass (λ patterns. list_any (λ p. holds g p) patterns) lists (λ a m. met a m e))
      (λ e. all_pass (λ patterns. list_any (λ p. holds g p) patterns) (filter (λ patterns. not (is_among patterns [])) lists)
      (λ a m. each_passes (λ patterns. list_any (λ p. holds g p) patterns) e (from_IsIn-filter (λ patterns. not (is_among patterns [])) lists m).0))
    where
      met : (a : List (List Point)) → IsIn a lists → meets_each (filter (λ patterns. not (is_among patterns [])) lists) g ≡ true → list_any (λ p. holds g p) a ≡ true
      met a m e = go (is_among a []) refl
        where
          go : (b : Bool) → is_among a [] ≡ b → list_any (λ p. holds g p) a ≡ true
          go false f = each_passes (λ patterns. list_any (λ p. holds g p) patterns) e (IsIn-filter (λ patterns. not (is_among patterns [])) m (not_false (is_among a []) f))
          go true f =
              let w = which_passes (gridded_eq []) a f in
              let same = (gridded_eq_decides [] w.0).0 w.2 in
              some_passes (λ p. holds g p) w.1 (rw (← same) (holds_empty g))

  abbrev pub remaining : List (List (List Point)) → List (List (List Point))
  remaining lists = filter (λ patterns. not (is_among patterns [])) (map (useful obstructions) lists)

  -- ---- all four
  pub meets_tidied : (lists : List (List (List Point))) → ((a : List (List Point)) → IsIn a lists → IsStrictlySortedBy gridded_cmp a) → ((a : List (List Point)) → IsIn a lists → EachGridded a)
      → (g : List Point) → holds_none_of obstructions g ≡ true → meets_each (tidied obstructions lists) g ≡ meets_each lists g
  meets_tidied lists s k g none =
      meets_unimplied (remaining lists) tidy g
      ∙ meets_without_empty (map (useful obstructions) lists) g
      ∙ list_all-map (λ patterns. list_any (λ p. holds g p) patterns) (useful obstructions) lists
      ∙ list_all-agree (λ a. list_any (λ p. holds g p) (useful obstructions a)) (λ a. list_any (λ p. holds g p) a) lists (λ a m. holds_useful a (k a m) g none)
    where
      tidy : (a : List (List Point)) → IsIn a (remaining lists) → IsTidyList a
      tidy a m =
          let w = from_IsIn-map (useful obstructions) lists (from_IsIn-filter (λ patterns. not (is_among patterns [])) (map (useful obstructions) lists) m).0 in
          rw w.2 (is_tidy w.0 (s w.0 w.1) (k w.0 w.1))
