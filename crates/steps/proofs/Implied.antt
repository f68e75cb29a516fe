-- The lists that no other implies say as much as all lists.
use Rattle.std.proofs.Common.{◌≡◌, ℕ, zero, suc, ◌+◌, ◌<◌, ◌≤◌, Bool, true, false, cond, List, [], ◌∷◌, refl, sym, ◌∙◌, arith, subst}
use Rattle.std.specs.Prelude.{◌&&◌, not, count_by, Contains}
use Rattle.std.specs.List.{list_any}
use Rattle.std.specs.List.Sorted.{IsStrictlySortedBy}
use Rattle.std.specs.Cmp.Lexicographic.{pointwise, pointwise_decides}
use Rattle.std.proofs.lemmas.List.Sums.{sum_by-cons}
use Rattle.std.proofs.lemmas.Bool.{and_parts as and_true, and_from as both_true, not-true as not_true, not_from_false as not_false}
use Rattle.lists.specs.Members.IsIn.{here, later}
use Rattle.lists.proofs.Tests.{same_test}
use Rattle.lists.proofs.Members.{from_IsIn-filter, IsIn-filter}
use Rattle.lists.specs.Members.{IsIn}
use Rattle.gridded.specs.Grids.{Point, holds}
use Rattle.gridded.specs.Orders.{gridded_eq, gridded_cmp}
use Rattle.gridded.specs.OrderLaws.{gridded_eq_decides, gridded_total, gridded_exact}
use Rattle.sequences.proofs.InOrder.{in_order-is}
use Rattle.steps.specs.Steps.{implies_list, is_implied, without_implied}
use Rattle.steps.proofs.ListTests.{each_passes, all_pass, some_passes, which_passes}
use Rattle.gridded.proofs.Holding.{holds_trans, holds_itself, holds_each_other}
use Rattle.steps.proofs.Minimal.{EachGridded}
use Rattle.steps.proofs.Members.{meets_each}

-- ---- membership by places
pub is_in : {X : Type 0} (xs : List X) (x : X) → Contains xs x → IsIn x xs
is_in [] x (k, l, e) = absurd (omega arith)
is_in (y ∷ xs) x (zero, l, e) = rw e here
is_in (y ∷ xs) x (suc k, l, e) = later y (is_in xs x (k, omega arith, e))

pub contained : {X : Type 0} {x : X} {xs : List X} → IsIn x xs → Contains xs x
contained here = (0, omega arith, refl)
contained (later y h) = let k = contained h in (suc k.0, omega (arith, k.1), k.2)

-- ---- counts
abbrev one_if : Bool → ℕ
one_if b = cond b 1 0

count-cons : {X : Type 0} (p : X → Bool) (x : X) (xs : List X) → count_by p (x ∷ xs) ≡ one_if (p x) + count_by p xs
count-cons p x xs = sum_by-cons (λ y. cond (p y) 1 0) x xs

one_if_le : (a b : Bool) → (a ≡ true → b ≡ true) → one_if a ≤ one_if b
one_if_le false b f = omega arith
one_if_le true b f = rw (f refl) (omega arith)

count_le : {X : Type 0} (p q : X → Bool) (xs : List X) → ((x : X) → IsIn x xs → p x ≡ true → q x ≡ true) → count_by p xs ≤ count_by q xs
count_le p q [] f = omega arith
count_le p q (x ∷ xs) f =
    let ih = count_le p q xs (λ y m. f y (later x m)) in
    let s = one_if_le (p x) (q x) (f x here) in
    rw (count-cons p x xs, count-cons q x xs) (omega arith)

pub count_lt : {X : Type 0} (p q : X → Bool) {z : X} {xs : List X} → ((x : X) → IsIn x xs → p x ≡ true → q x ≡ true) → IsIn z xs → p z ≡ false → q z ≡ true → count_by p xs < count_by q xs
count_lt p q {z = z} f (here {xs = xs}) e g =
    let ih = count_le p q xs (λ y m. f y (later z m)) in
    rw (count-cons p z xs, count-cons q z xs, e, g) (omega arith)
count_lt p q f (later {xs = xs} y m) e g =
    let ih = count_lt p q (λ x n. f x (later y n)) m e g in
    let s = one_if_le (p y) (q y) (f y here) in
    rw (count-cons p y xs, count-cons q y xs) (omega arith)

-- ---- lists whose members don't hold one another
pub record IsTidyList (patterns : List (List Point)) : Type 0 where
  pub ascends : IsStrictlySortedBy gridded_cmp patterns
  pub gridded : EachGridded patterns
  pub apart : (g p : List Point) → IsIn g patterns → IsIn p patterns → holds g p ≡ true → g ≡ p

implies_tells : (patterns others : List (List Point)) → implies_list patterns others ≡ true → (g : List Point) → IsIn g patterns → (p : List Point) × IsIn p others × (holds g p ≡ true)
implies_tells patterns others e g m = which_passes (holds g) others (each_passes (λ h. list_any (holds h) others) e m)

implies_from : (patterns others : List (List Point)) → ((g : List Point) → IsIn g patterns → (p : List Point) × IsIn p others × (holds g p ≡ true)) → implies_list patterns others ≡ true
implies_from patterns others f = all_pass (λ h. list_any (holds h) others) patterns (λ g m. let w = f g m in some_passes (holds g) w.1 w.2)

implies_trans : (a b c : List (List Point)) → implies_list a b ≡ true → implies_list b c ≡ true → implies_list a c ≡ true
implies_trans a b c e f =
    implies_from a c (λ g m. let u = implies_tells a b e g m in let v = implies_tells b c f u.0 u.1 in (v.0, v.1, holds_trans g u.0 v.0 u.2 v.2))

implies_itself : (a : List (List Point)) → implies_list a a ≡ true
implies_itself a = implies_from a a (λ g m. (g, m, holds_itself g))

shared : (a b : List (List Point)) → IsTidyList a → IsTidyList b → implies_list a b ≡ true → implies_list b a ≡ true → (g : List Point) → IsIn g a → IsIn g b
shared a b s t e f g m =
    let u = implies_tells a b e g m in
    let v = implies_tells b a f u.0 u.1 in
    let back : g ≡ v.0 = s.apart g v.0 m v.1 (holds_trans g u.0 v.0 u.2 v.2) in
    let held : holds u.0 g ≡ true = subst (λ (z : List Point). holds u.0 z ≡ true) (sym back) v.2 in
    let same : g ≡ u.0 = holds_each_other g u.0 (s.gridded g m) (t.gridded u.0 u.1) u.2 held in
    subst (λ (z : List Point). IsIn z b) (sym same) u.1

-- lists that imply each other are one
implies_each_other : (a b : List (List Point)) → IsTidyList a → IsTidyList b → implies_list a b ≡ true → implies_list b a ≡ true → a ≡ b
implies_each_other a b s t e f =
    in_order-is gridded_cmp gridded_total gridded_exact a a (record { ascends = s.ascends; keeps = λ x k. k; adds_none = λ x k. k })
    ∙ sym (in_order-is gridded_cmp gridded_total gridded_exact b a (record {
      ascends = t.ascends;
      keeps = λ x k. contained (shared a b s t e f x (is_in a x k));
      adds_none = λ x k. contained (shared b a t s f e x (is_in b x k));
    }))

-- ---- the lists that stay
module _ (lists : List (List (List Point))) (tidy : (a : List (List Point)) → IsIn a lists → IsTidyList a) where
  abbrev implied_by : List (List Point) → List (List Point) → Bool
  implied_by others patterns = not (pointwise gridded_eq patterns others) && implies_list patterns others

  abbrev above : List (List Point) → ℕ
  above others = count_by (implied_by others) lists

  not_itself : (a : List (List Point)) → implied_by a a ≡ false
  not_itself a = rw ((pointwise_decides gridded_eq_decides a a).1 refl)

  apart : (a b : List (List Point)) → (a ≡ b → ⊥) → not (pointwise gridded_eq a b) ≡ true
  apart a b n = go (pointwise gridded_eq a b) refl
    where
      go : (t : Bool) → pointwise gridded_eq a b ≡ t → not (pointwise gridded_eq a b) ≡ true
      go true e = absurd (n ((pointwise_decides gridded_eq_decides a b).0 e))
      go false e = not_false (pointwise gridded_eq a b) e

  differ : (a b : List (List Point)) → not (pointwise gridded_eq a b) ≡ true → a ≡ b → ⊥
  differ a b e same =
      let f = not_true (pointwise gridded_eq a b) e in
      let g = (pointwise_decides gridded_eq_decides a b).1 same in
      cc

  fewer_above : (a b : List (List Point)) → IsIn a lists → IsIn b lists → implied_by a b ≡ true → above b < above a
  fewer_above a b m n e = count_lt (implied_by b) (implied_by a) more n (not_itself b) e
    where
      k : (not (pointwise gridded_eq b a) ≡ true) × (implies_list b a ≡ true)
      k = and_true (not (pointwise gridded_eq b a)) (implies_list b a) e

      more : (c : List (List Point)) → IsIn c lists → implied_by b c ≡ true → implied_by a c ≡ true
      more c o f =
          let l = and_true (not (pointwise gridded_eq c b)) (implies_list c b) f in
          both_true (not (pointwise gridded_eq c a)) (implies_list c a)
          (apart c a (λ same. let back : implies_list a b ≡ true = rw same at l.1 in differ b a k.0 (implies_each_other b a (tidy b n) (tidy a m) k.1 back)))
          (implies_trans c b a l.1 k.1)

  -- a list that stays, and that implies a list
  abbrev Above : List (List Point) → Type 0
  Above a = (c : List (List Point)) × IsIn c (without_implied lists) × (implies_list c a ≡ true)

  above_within : (n : ℕ) (a : List (List Point)) → above a ≤ n → IsIn a lists → Above a
  above_within zero a b m = go (is_implied lists a) refl
    where
      go : (t : Bool) → is_implied lists a ≡ t → Above a
      go false e = (a, IsIn-filter (λ c. not (is_implied lists c)) m (not_false (is_implied lists a) e), implies_itself a)
      go true e =
          let w = which_passes (implied_by a) lists e in
          let s = fewer_above a w.0 m w.1 w.2 in
          absurd (omega arith)
  above_within (suc n) a b m = go (is_implied lists a) refl (above_within n)
    where
      go : (t : Bool) → is_implied lists a ≡ t → ((c : List (List Point)) → above c ≤ n → IsIn c lists → Above c) → Above a
      go false e ih = (a, IsIn-filter (λ c. not (is_implied lists c)) m (not_false (is_implied lists a) e), implies_itself a)
      go true e ih =
          let w = which_passes (implied_by a) lists e in
          let s = fewer_above a w.0 m w.1 w.2 in
          let l = ih w.0 (omega arith) w.1 in
          (l.0, l.1, implies_trans l.0 w.0 a l.2 (and_true (not (pointwise gridded_eq w.0 a)) (implies_list w.0 a) w.2).1)

  pub meets_unimplied : (g : List Point) → meets_each (without_implied lists) g ≡ meets_each lists g
  meets_unimplied g = same_test (meets_each (without_implied lists) g) (meets_each lists g)
      (λ e. all_pass (λ patterns. list_any (λ p. holds g p) patterns) lists (λ a m.
      let c = above_within (above a) a (omega arith) m in
      let u = which_passes (λ p. holds g p) c.0 (each_passes (λ patterns. list_any (λ p. holds g p) patterns) e c.1) in
      let v = implies_tells c.0 a c.2 u.0 u.1 in
      some_passes (λ p. holds g p) v.1 (holds_trans g u.0 v.0 u.2 v.2)))
      (λ e. all_pass (λ patterns. list_any (λ p. holds g p) patterns) (without_implied lists) (λ a m.
      each_passes (λ patterns. list_any (λ p. holds g p) patterns) e (from_IsIn-filter (λ c. not (is_implied lists c)) lists m).0))
