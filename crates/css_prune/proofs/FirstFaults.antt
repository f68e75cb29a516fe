-- Entries one by one, as far as the first fault.
use Rattle.std.proofs.Common.{◌≡◌, ℕ, zero, suc, ◌+◌, ◌<◌, ◌≤◌, Bool, true, false, List, [], ◌∷◌, length, get_or, refl, sym, ap, subst, ◌∙◌, ⊎_elim, arith}
use Rattle.std.specs.Prelude.{Option, ◌≢◌, ◌&&◌, ◌==◌, not, nat_lt, map, remove, slice_get, slice_index, Some, IsTrue}
use Rattle.std.specs.List.{list_any, list_all}
use Rattle.std.proofs.lemmas.Bool.{eqb-true, eq-eqb, and_from}
use Rattle.std.proofs.lemmas.Bool.Decides.{nat_tests}
use Rattle.std.proofs.lemmas.List.Folds.{list_all_at}
use Rattle.std.proofs.lemmas.Option.{slice_get_within}
use Rattle.lists.specs.Members.NoRepeats.{no_element, one_more}
use Rattle.lists.proofs.Places.{at_place, place_of}
use Rattle.lists.proofs.Numbers.{less_or_whole}
use Rattle.lists.proofs.Tests.{which_passes, some_passes}
use Rattle.lists.specs.Members.{IsIn, NoRepeats}
use Rattle.lists.proofs.Members.{from_IsIn-map}
use Rattle.css_domain.specs.Meanings.{Meaning}
use Rattle.css_domain.specs.Entries.{Entry, IsSpec}
use Rattle.css_prune.specs.Faults.{EachBefore, IsMatched, IsRuleRight, AreRanksRight}

pub never : {P : Type 0} → IsTrue false → P
never t = absurd cc

pub not_both : {P : Type 0} (b : Bool) → b ≡ false → IsTrue b → P
not_both b e t = absurd cc

pub same_some : {X : Type 0} {x y : X} {o : Option X} → o ≡ Some x → o ≡ Some y → x ≡ y
same_some a b = cc

pub some_there : (n m : ℕ) → (n == 0) ≡ false → n ≡ m → 0 < m
some_there n zero h s = absurd (let t = eq-eqb n 0 s in cc)
some_there n (suc m) h s = omega arith

-- one place more
pub before_more : {X : Type 0} (P : ℕ → X → Type 0) (xs : List X) (j : ℕ) (x : X) → slice_get xs j ≡ Some x → P j x → EachBefore P xs j → EachBefore P xs (j + 1)
before_more P xs j x at p before k y less there =
    ⊎_elim {C = P k y} (λ l. before k y l there)
    (λ e. subst (λ i. P i y) (sym e) (subst (λ z. P j z) (same_some at (subst (λ i. slice_get xs i ≡ Some y) e there)) p))
    (less_or_whole k j (omega (arith, less)))

-- ---- a number among others
pub number_at : (xs : List ℕ) (i : ℕ) → i < length xs → slice_get xs i ≡ Some (get_or xs i 0)
number_at [] i h = absurd (omega (arith, h))
number_at (x ∷ xs) zero h = refl
number_at (x ∷ xs) (suc i) h = number_at xs i (omega (arith, h))

pub from_any : (x : ℕ) (xs : List ℕ) → list_any (λ y. y == x) xs ≡ true → IsIn x xs
from_any x xs h = let p = which_passes (λ y. y == x) xs h in subst (λ z. IsIn z xs) (eqb-true p.0 x p.2) p.1

pub any_from : (x : ℕ) (xs : List ℕ) → IsIn x xs → list_any (λ y. y == x) xs ≡ true
any_from x xs i = some_passes (λ y. y == x) i (eq-eqb x x refl)

-- ---- flags but one
pub mapped_at : {X : Type 0} (f : X → Bool) (xs : List X) (i : ℕ) (x : X) → slice_get xs i ≡ Some x → get_or (map f xs) i false ≡ f x
mapped_at f [] i x h = absurd cc
mapped_at {X} f (y ∷ xs) zero x h = let e : y ≡ x = cc in ap f e
mapped_at f (y ∷ xs) (suc i) x h = mapped_at f xs i x h

all_unset : (fs : List Bool) → ((s : ℕ) → s < length fs → get_or fs s false ≡ false) → list_all not fs ≡ true
all_unset [] h = refl
all_unset (f ∷ fs) h = and_from (not f) (list_all not fs) (ap not (h 0 (omega arith))) (all_unset fs (λ s l. h (suc s) (omega (arith, l))))

pub none_but_slot : (fs : List Bool) (slot : ℕ) → ((s : ℕ) → s < length fs → s ≢ slot → get_or fs s false ≡ false) → list_all not (remove fs slot) ≡ true
none_but_slot [] zero h = refl
none_but_slot [] (suc slot) h = refl
none_but_slot (f ∷ fs) zero h = all_unset fs (λ s l. h (suc s) (omega (arith, l)) (λ e. omega (arith, e)))
none_but_slot (f ∷ fs) (suc slot) h =
    and_from (not f) (list_all not (remove fs slot)) (ap not (h 0 (omega arith) (λ e. omega (arith, e))))
    (none_but_slot fs slot (λ s l o. h (suc s) (omega (arith, l)) (λ e. o (omega (arith, e)))))

and_none : (b : Bool) → (b && false) ≡ false
and_none true = refl
and_none false = refl

pub one_but_slot : (fs : List Bool) (slot s : ℕ) → s < length fs → s ≢ slot → get_or fs s false ≡ true → list_all not (remove fs slot) ≡ false
one_but_slot [] slot s l o h = absurd (omega (arith, l))
one_but_slot (f ∷ fs) zero zero l o h = absurd (o refl)
one_but_slot (f ∷ fs) zero (suc s) l o h = list_all_at not fs s false (omega (arith, l)) (ap not h)
one_but_slot (f ∷ fs) (suc slot) zero l o h = rw h refl
one_but_slot (f ∷ fs) (suc slot) (suc s) l o h = rw (one_but_slot fs slot s (omega (arith, l)) (λ e. o (ap suc e)) h) (and_none (not f))

pub less_true : (a b : ℕ) → a < b → IsTrue (nat_lt a b)
less_true a b h = grind (arith, nat_tests)

pub true_less : (a b : ℕ) → IsTrue (nat_lt a b) → a < b
true_less a b h = grind (arith, nat_tests)

-- ---- entries without a fault
distinct_firsts : {X Y : Type 0} (f : X → Y) (xs : List X) → ((i j : ℕ) (x y : X) → i < j → slice_get xs i ≡ Some x → slice_get xs j ≡ Some y → f x ≡ f y → ⊥) → NoRepeats (map f xs)
distinct_firsts f [] h = no_element
distinct_firsts f (x ∷ xs) h =
    one_more
    (λ i. let m = from_IsIn-map f xs i in let p = place_of xs m.0 m.1 in h 0 (suc p.0) x m.0 (omega arith) refl p.1 m.2)
    (distinct_firsts f xs (λ i j y z l a b. h (suc i) (suc j) y z (omega (arith, l)) a b))

module _ {C R : Type 0} (D : Meaning C R) (entries : List (Entry C R)) where
  pub matched_by : (e : Entry C R) (slot k : ℕ) (named : Entry C R) (child : C) → slice_index e.children slot ≡ k → slice_get entries k ≡ Some named → slice_get (D.children e.rule) slot ≡ Some child → child ≡ named.class → IsMatched D entries e slot
  matched_by e slot k named child place there at same = record { named = named; there = ap (slice_get entries) place ∙ there; class = at ∙ ap Some same }

  pub from_matched : (e : Entry C R) (slot k : ℕ) (named : Entry C R) (child : C) → slice_index e.children slot ≡ k → slice_get entries k ≡ Some named → slice_get (D.children e.rule) slot ≡ Some child → IsMatched D entries e slot → child ≡ named.class
  from_matched e slot k named child place there at m =
      let same : m.named ≡ named = same_some m.there (ap (slice_get entries) place ∙ there) in
      same_some at m.class ∙ ap (λ (d : Entry C R). d.class) same

  pub none_past : (e : Entry C R) (slot k : ℕ) → slice_index e.children slot ≡ k → length entries ≤ k → IsMatched D entries e slot → ⊥
  none_past e slot k place past m = let w = slice_get_within entries (slice_index e.children slot) m.named m.there in omega (arith, w, place, past)

  pub is_spec : 0 < length entries → EachBefore (IsRuleRight D entries) entries (length entries) → EachBefore (AreRanksRight D entries) entries (length entries) → IsSpec D entries
  is_spec some right ranks =
      record {
        some = some;
        distinct = distinct_firsts (λ (e : Entry C R). e.class) entries (λ i j d e l a b s. (right j e (slice_get_within entries j e b) b).new (record { j = i; earlier = l; by = d; there = a; class = s }));
        linked = λ e i.
            let p = place_of entries e i in
            let w = slice_get_within entries p.0 e p.1 in
            let ok = right p.0 e w p.1 in
            record {
              own = ok.own;
              as_many = ok.as_many;
              child = λ slot l. let m = ok.child slot l in record { named = m.named; there = m.there; class = m.class; rank = λ keeps. ranks p.0 e w p.1 slot l keeps m.named m.there };
            };
        called = λ i more l. let e = at_place entries i l in (right i e.0 l e.1).called more;
      }
