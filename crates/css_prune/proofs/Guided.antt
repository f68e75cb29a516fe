-- Along the picks of kept classes.
use Rattle.std.proofs.Common.{◌≡◌, ℕ, suc, ◌+◌, ◌<◌, Bool, true, List, [], length, replicate, sym, ap, subst, ◌∙◌, arith}
use Rattle.std.specs.Prelude.{nat_eq, slice_get, slice_index, Some}
use Rattle.std.proofs.lemmas.List.{get_or-replicate, length-replicate}
use Rattle.std.proofs.lemmas.Option.{slice_get_within}
use Rattle.lists.specs.Members.NoRepeats.{no_element}
use Rattle.lists.specs.Added.{with_all_new}
use Rattle.lists.proofs.Places.{IsIn-slice_get}
use Rattle.lists.specs.Members.{IsIn}
use Rattle.css_domain.specs.declared.record.Record.{Record}
use Rattle.css_domain.specs.Records.{numbers}
use Rattle.css_domain.specs.Added.{with_children, order_from}
use Rattle.css_domain.specs.Entries.{children_at}
use Rattle.css_prune.proofs.Supports.{in_at_slot}
use Rattle.css_domain.proofs.Orders.{order_all}
use Rattle.css_prune.specs.Places.{IsGuide, calls, ArePlaces}

pub no_places : (order places : List ℕ) (n : ℕ) → order ≡ [] → places ≡ replicate n 0 → ArePlaces order places
no_places order places n o p =
    rw (o, p) (record { at = λ d h. get_or-replicate n d 0 0 (let l = length-replicate {A = ℕ} n 0 in omega (arith, l, h)); below = λ d i. elim i [ ]; distinct = no_element })

module _ (K : ℕ → Bool) (records : List Record) (picks : List ℕ) (n : ℕ) (guide : IsGuide K records picks n) (root : ℕ) (kept : K root ≡ true) (order : List ℕ) (k : ℕ) (is : order ≡ order_from root (calls records picks) k) (c : ℕ) (at : slice_get order k ≡ Some c) where
  pub kept_at : K c ≡ true
  kept_at = order_all root (calls records picks) (λ d. K d ≡ true) kept guide.child k c (subst (λ xs. IsIn c xs) is (IsIn-slice_get order k c at))

  pub small_at : c < n
  small_at = guide.small c kept_at

  pub pick_small : slice_index picks c < length records
  pick_small = let r = guide.picked c kept_at in slice_get_within records (slice_index picks c) r.0 r.1

  module _ (r : Record) (there : slice_get records (slice_index picks c) ≡ Some r) where
    calls_are : calls records picks c ≡ numbers r
    calls_are = ap children_at there

    pub child_small : (slot : ℕ) → slot < length (numbers r) → slice_index (numbers r) slot < n
    child_small slot h = guide.small (slice_index (numbers r) slot) (guide.child c kept_at (slice_index (numbers r) slot) (subst (λ xs. IsIn (slice_index (numbers r) slot) xs) (sym calls_are) (in_at_slot (numbers r) slot h)))

    pub next_order : (new : List ℕ) → new ≡ with_all_new nat_eq order (numbers r) → new ≡ order_from root (calls records picks) (k + 1)
    next_order new e =
        let s : k + 1 ≡ suc k = omega arith in
        let a : slice_get (order_from root (calls records picks) k) k ≡ Some c = ap (λ xs. slice_get xs k) (sym is) ∙ at in
        rw s (e ∙ ap (with_all_new nat_eq order) (sym calls_are) ∙ ap (λ xs. with_all_new nat_eq xs (calls records picks c)) is ∙ sym (ap (with_children (calls records picks) (order_from root (calls records picks) k)) a))
