-- A list whose neighbours ascend ascends.
use Rattle.std.proofs.Common.{◌≡◌, ◌<◌, ◌≤◌, ◌+◌, ◌-◌, ℕ, Bool, true, false, List, [], ◌∷◌, length, get_or, refl, sym, ap, ◌∙◌, arith}
use Rattle.std.specs.Prelude.{nat_lt}
use Rattle.std.specs.declared.cmp.Ordering.{Ordering}
use Rattle.std.specs.declared.cmp.Ordering.TheVariants.{Less}
use Rattle.std.specs.Cmp.{IsTotalOrder}
use Rattle.std.specs.List.Sorted.{IsStrictlySortedBy}
use Rattle.std.proofs.lemmas.Bool.Decides.{nat_tests}
use Rattle.std.proofs.lemmas.List.{get_or_default}
use Rattle.std.proofs.lemmas.Map.Keys.{sorted_from_all_adjacent}
use Rattle.sequences.specs.Ascending.{IsAscendingOf}

module _ {K : Type 0} (cmp : K → K → Ordering) where
  -- the first items ascend, each to its neighbour
  abbrev pub Ascends : ℕ → List K → Type 0
  Ascends place xs = (k : ℕ) → (d : K) → k + 1 < place → cmp (get_or xs k d) (get_or xs (k + 1) d) ≡ Less

  pub one_more : (xs : List K) (place : ℕ) (x y : K) → 1 ≤ place → place < length xs → x ≡ get_or xs (place - 1) x → y ≡ get_or xs place y → cmp x y ≡ Less → Ascends place xs → Ascends (place + 1) xs
  one_more xs place x y some b at next e before k d l = go (nat_lt (k + 1) place) refl
    where
      go : (t : Bool) → nat_lt (k + 1) place ≡ t → cmp (get_or xs k d) (get_or xs (k + 1) d) ≡ Less
      go true f = before k d (grind (arith, nat_tests))
      go false f =
          let last : k + 1 ≡ place = grind (arith, nat_tests) in
          let prior : place - 1 ≡ k = omega arith in
          let first : get_or xs k d ≡ x = get_or_default xs k d x (omega arith) ∙ sym (at ∙ ap (λ i. get_or xs i x) prior) in
          let second : get_or xs (k + 1) d ≡ y = ap (λ i. get_or xs i d) last ∙ get_or_default xs place d y b ∙ sym next in
          rw (first, second) e

  none_ascends : IsStrictlySortedBy cmp []
  unfolding IsStrictlySortedBy
  none_ascends = tt

  pub all_ascend : IsTotalOrder cmp → (xs : List K) (place : ℕ) → length xs ≤ place → Ascends place xs → IsStrictlySortedBy cmp xs
  all_ascend total [] place l h = none_ascends
  all_ascend total (x ∷ xs) place l h = sorted_from_all_adjacent total (x ∷ xs) x (λ k b. h k x (omega arith))

  pub ascending_itself : (xs : List K) → IsStrictlySortedBy cmp xs → IsAscendingOf cmp xs xs
  ascending_itself xs s = record { ascends = s; keeps = λ x h. h; adds_none = λ x h. h }
