-- Each item of a list is smaller than the next exactly where it is smaller than all later ones.
use Rattle.std.proofs.Common.{◌≡◌, true, List, [], ◌∷◌, refl, sym, ap, true≢false}
use Rattle.std.specs.Prelude.{◌↔◌, IsTrue}
use Rattle.std.specs.List.{AllByRecursion}
use Rattle.std.specs.List.Sorted.{IsStrictlySortedBy}
use Rattle.std.specs.Cmp.{IsTotalOrder, first_so, second_so}
use Rattle.std.specs.declared.cmp.Ordering.{Ordering}
use Rattle.std.specs.declared.cmp.Ordering.TheVariants.{Less, Equal, Greater}
use Rattle.std.specs.Ordering.{is_lt}
use Rattle.std.proofs.lemmas.Bool.{and_from}
use Rattle.spec_lines.specs.Forms.{ascending}

is_less : (o : Ordering) → is_lt o ≡ true → o ≡ Less
is_less Less h = refl
is_less Equal h = absurd (true≢false (sym h))
is_less Greater h = absurd (true≢false (sym h))

module _ {X : Type 0} (cmp : X → X → Ordering) where
  pub sorted_ascends : (xs : List X) → IsStrictlySortedBy cmp xs → ascending cmp xs ≡ true
  unfolding IsStrictlySortedBy
  sorted_ascends [] h = refl
  sorted_ascends (x ∷ []) h = refl
  sorted_ascends (x ∷ y ∷ xs) h = and_from (is_lt (cmp x y)) (ascending cmp (y ∷ xs)) (ap is_lt (h.0.0)) (sorted_ascends (y ∷ xs) (h.1))

  -- what is smaller than an item is smaller than all that it is smaller than
  below_all : IsTotalOrder cmp → (x y : X) (xs : List X) → cmp x y ≡ Less → AllByRecursion (λ z. cmp y z ≡ Less) xs → AllByRecursion (λ z. cmp x z ≡ Less) xs
  below_all total x y [] less each = tt
  below_all total x y (z ∷ xs) less each = (total.trans x y z less (each.0), below_all total x y xs less (each.1))

  pub ascends_sorted : IsTotalOrder cmp → (xs : List X) → ascending cmp xs ≡ true → IsStrictlySortedBy cmp xs
  unfolding IsStrictlySortedBy
  ascends_sorted total [] h = tt
  ascends_sorted total (x ∷ []) h = (tt, tt)
  ascends_sorted total (x ∷ y ∷ xs) h =
      let less = is_less (cmp x y) (first_so (is_lt (cmp x y)) (ascending cmp (y ∷ xs)) h) in
      let later = ascends_sorted total (y ∷ xs) (second_so (is_lt (cmp x y)) (ascending cmp (y ∷ xs)) h) in
      ((less, below_all total x y xs less (later.0)), later)

  pub ascent : IsTotalOrder cmp → (xs : List X) → IsTrue (ascending cmp xs) ↔ IsStrictlySortedBy cmp xs
  ascent total xs = (λ h. ascends_sorted total xs h, λ h. sorted_ascends xs h)
