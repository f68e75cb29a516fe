-- Patterns that hold another one which stays may be left out: what holds no other is the same.
use Rattle.std.proofs.Common.{◌≡◌, ◌<◌, ℕ, Bool, true, false, List, length, refl, sym, ap, ◌∙◌, subst, inl, inr, arith}
use Rattle.std.specs.Prelude.{◌&&◌, not, nat_lt, sum_by}
use Rattle.std.specs.List.{filter, list_any, list_all}
use Rattle.std.proofs.lemmas.Bool.Decides.{nat_tests}
use Rattle.std.proofs.lemmas.Bool.{and_parts, and_from, not-true, not_from_false}
use Rattle.std.proofs.lemmas.List.Kept.{IsStrictlySortedBy-filter}
use Rattle.lists.specs.Members.{IsIn}
use Rattle.lists.proofs.Members.{is_in, contained, of_all, IsIn-filter, from_IsIn-filter}
use Rattle.lists.proofs.Tests.{same_test, some_passes, none_passes, no_pass, some_fails}
use Rattle.lists.proofs.Filters.{filter-filter, filter-agree, filter-all}
use Rattle.sequences.specs.Ascending.{in_order}
use Rattle.sequences.proofs.InOrder.{in_order-same_items, in_order-is}
use Rattle.gridded.specs.Grids.{Point, IsGridded, holds}
use Rattle.gridded.specs.Orders.{gridded_cmp, gridded_eq}
use Rattle.gridded.specs.OrderLaws.{gridded_total, gridded_exact, gridded_eq_decides}
use Rattle.gridded.proofs.Holding.{holds_trans, holds_each_other}
use Rattle.tiling_core.specs.Tiles.{AreGridded, tiling_of}
use Rattle.tiling_core.specs.Patterns.{holds_another, minimal}
use Rattle.tiling_core.proofs.Kept.{patterns_ascend, AreGridded-in_order}
use Rattle.steps.specs.declared.Step.TheVariants.{Min}
use Rattle.steps.specs.Steps.{step_applies}
use Rattle.normal_form.specs.Thinned.{IsThinned}
use Rattle.normal_form.proofs.Sums.{StaysOrFalls, filter_falls}
use Rattle.normal_form.proofs.Tilings.{ones}

-- a pattern that stays, and that g holds without being it
abbrev pub Stays : List (List Point) → (List Point → Bool) → List Point → Type 0
Stays xs keep g = (p : List Point) × IsIn p xs × (keep p ≡ true) × (gridded_eq g p ≡ false) × (holds g p ≡ true)

-- what is left out holds something that stays
abbrev pub HoldWhatStays : List (List Point) → (List Point → Bool) → Type 0
HoldWhatStays xs keep = (g : List Point) → IsIn g xs → keep g ≡ false → Stays xs keep g

-- whether p is another pattern that g holds
abbrev pub is_other : List Point → List Point → Bool
is_other g p = not (gridded_eq g p) && holds g p

-- ---- what holds no other
module _ (xs : List (List Point)) (keep : List Point → Bool) (gridded : AreGridded xs) (why : HoldWhatStays xs keep) where
  abbrev kept : List (List Point)
  kept = filter keep xs

  -- what holds one that stays holds another of all
  left_out_holds : (g : List Point) → IsIn g xs → keep g ≡ false → holds_another xs g ≡ true
  left_out_holds g m e =
      let w = why g m e in
      some_passes (is_other g) w.1 (and_from (not (gridded_eq g w.0)) (holds g w.0) (not_from_false (gridded_eq g w.0) w.3) w.4)

  least_is_kept : (g : List Point) → IsIn g xs → holds_another xs g ≡ false → (keep g && not (holds_another kept g)) ≡ true
  least_is_kept g m e =
      and_from (keep g) (not (holds_another kept g)) (stays (keep g) refl) (not_from_false (holds_another kept g) (no_pass (is_other g) kept (λ p n f. fails p (from_IsIn-filter keep xs n).0 f)))
    where
      stays : (b : Bool) → keep g ≡ b → keep g ≡ true
      stays true f = f
      stays false f = let h = left_out_holds g m f in absurd cc

      fails : (p : List Point) → IsIn p xs → is_other g p ≡ true → ⊥
      fails p n f = let h = none_passes (is_other g) xs e n in cc

  -- g holds p, which holds one that stays: that is another than g
  through : (g p : List Point) → IsIn g xs → IsIn p xs → is_other g p ≡ true → Stays xs keep p → (q : List Point) × IsIn q kept × (is_other g q ≡ true)
  through g p m n e w = (w.0, IsIn-filter keep w.1 w.2, and_from (not (gridded_eq g w.0)) (holds g w.0) (not_from_false (gridded_eq g w.0) (apart (gridded_eq g w.0) refl)) (holds_trans g p w.0 a.1 w.4))
    where
      a : (not (gridded_eq g p) ≡ true) × (holds g p ≡ true)
      a = and_parts (not (gridded_eq g p)) (holds g p) e

      apart : (b : Bool) → gridded_eq g w.0 ≡ b → gridded_eq g w.0 ≡ false
      apart false f = f
      apart true f =
          let back : holds p g ≡ true = subst (λ (q : List Point). holds p q ≡ true) (sym ((gridded_eq_decides g w.0).0 f)) w.4 in
          let same = (gridded_eq_decides g p).1 (holds_each_other g p (of_all (λ q. IsGridded q) gridded m) (of_all (λ q. IsGridded q) gridded n) a.1 back) in
          let other = not-true (gridded_eq g p) a.0 in
          absurd cc

  kept_is_least : (g : List Point) → IsIn g xs → holds_another kept g ≡ false → holds_another xs g ≡ false
  kept_is_least g m e = no_pass (is_other g) xs (λ p n f. fails p n f (keep p) refl)
    where
      fails : (p : List Point) → IsIn p xs → is_other g p ≡ true → (b : Bool) → keep p ≡ b → ⊥
      fails p n f true k = let h = none_passes (is_other g) kept e (IsIn-filter keep n k) in cc
      fails p n f false k =
          let w = through g p m n f (why p n k) in
          let h = none_passes (is_other g) kept e w.1 in
          let o = w.2 in
          cc

  same_minimal : minimal (filter keep xs) ≡ minimal xs
  same_minimal =
      filter-filter (λ g. not (holds_another kept g)) keep xs
      ∙ filter-agree (λ g. keep g && not (holds_another kept g)) (λ g. not (holds_another xs g)) xs (λ g m.
      same_test (keep g && not (holds_another kept g)) (not (holds_another xs g))
      (λ e. not_from_false (holds_another xs g) (kept_is_least g m (not-true (holds_another kept g) (and_parts (keep g) (not (holds_another kept g)) e).1)))
      (λ e. least_is_kept g m (not-true (holds_another xs g) e)))

-- ---- in order
abbrev ordered : List (List Point) → List (List Point)
ordered xs = in_order gridded_cmp xs

into_order : {g : List Point} (xs : List (List Point)) → IsIn g xs → IsIn g (ordered xs)
into_order {g} xs m = is_in (ordered xs) g ((in_order-same_items gridded_cmp gridded_total gridded_exact xs g).0 (contained m))

from_order : {g : List Point} (xs : List (List Point)) → IsIn g (ordered xs) → IsIn g xs
from_order {g} xs m = is_in xs g ((in_order-same_items gridded_cmp gridded_total gridded_exact xs g).1 (contained m))

-- what is kept in order is kept of what is in order
filter_in_order : (keep : List Point → Bool) (xs : List (List Point)) → ordered (filter keep xs) ≡ filter keep (ordered xs)
filter_in_order keep xs = sym (in_order-is gridded_cmp gridded_total gridded_exact (filter keep (ordered xs)) (filter keep xs) (record {
  ascends = IsStrictlySortedBy-filter gridded_cmp keep (ordered xs) (patterns_ascend xs);
  keeps = λ g c. let a = from_IsIn-filter keep xs (is_in (filter keep xs) g c) in contained (IsIn-filter keep (into_order xs a.0) a.1);
  adds_none = λ g c. let a = from_IsIn-filter keep (ordered xs) (is_in (filter keep (ordered xs)) g c) in contained (IsIn-filter keep (from_order xs a.0) a.1);
}))

hold_in_order : (xs : List (List Point)) (keep : List Point → Bool) → HoldWhatStays xs keep → HoldWhatStays (ordered xs) keep
hold_in_order xs keep why g m e = let w = why g (from_order xs m) e in (w.0, into_order xs w.1, w.2, w.3, w.4)

-- ---- a tiling of which some obstructions are left out
some_left_out : (w h : ℕ) (xs : List (List Point)) (keep : List Point → Bool) (lists : List (List (List Point))) → AreGridded xs → HoldWhatStays xs keep
    → nat_lt (length (filter keep xs)) (length xs) ≡ true → step_applies Min (tiling_of w h xs lists) ≡ true
unfolding step_applies
some_left_out w h xs keep lists gridded why e = go (list_all keep xs) refl
  where
    go : (b : Bool) → list_all keep xs ≡ b → list_any (holds_another (ordered xs)) (ordered xs) ≡ true
    go true f = let same = ap (λ (ys : List (List Point)). length ys) (filter-all keep xs f) in absurd (grind (arith, nat_tests))
    go false f =
        let a = some_fails keep xs f in
        let m = into_order xs a.1 in
        some_passes (holds_another (ordered xs)) m (left_out_holds (ordered xs) keep (AreGridded-in_order xs gridded) (hold_in_order xs keep why) a.0 m a.2)

none_left_out : (keep : List Point → Bool) (xs : List (List Point)) → nat_lt (length (filter keep xs)) (length xs) ≡ false → filter keep xs ≡ xs
none_left_out keep xs e = go (filter_falls keep (λ _. 1) (λ g. omega arith) xs)
  where
    go : StaysOrFalls (λ (ys : List (List Point)). sum_by (λ _. 1) ys) xs (filter keep xs) → filter keep xs ≡ xs
    go (inl f) = f
    go (inr l) =
        let m : length (filter keep xs) < length xs = omega (arith, l, ones xs, ones (filter keep xs)) in
        absurd (grind (arith, nat_tests))

-- patterns that hold another one which stays may be left out of the obstructions
pub thinning : (w h : ℕ) (xs : List (List Point)) (keep : List Point → Bool) (lists : List (List (List Point)))
    → AreGridded xs → HoldWhatStays xs keep
    → IsThinned (tiling_of w h xs lists) (tiling_of w h (filter keep xs) lists) (nat_lt (length (filter keep xs)) (length xs))
thinning w h xs keep lists gridded why = record {
  width = refl;
  height = refl;
  requirements = refl;
  least = ap (λ (ys : List (List Point)). minimal ys) (filter_in_order keep xs) ∙ same_minimal (ordered xs) keep (AreGridded-in_order xs gridded) (hold_in_order xs keep why);
  some = λ e. some_left_out w h xs keep lists gridded why e;
  none = λ e. ap (λ (ys : List (List Point)). tiling_of w h ys lists) (none_left_out keep xs e);
}
