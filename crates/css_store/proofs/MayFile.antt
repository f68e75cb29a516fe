-- What may be filed for a class that is out, and what is claimed.
use Rattle.std.proofs.Common.{◌≡◌, ◌≢◌, ◌≤◌, ◌<◌, ℕ, zero, suc, Bool, true, false, cond, List, [], ◌∷◌, ◌++◌, length, take, Option, Some, None, sym, refl, ap, ◌∙◌, subst, arith}
use Rattle.std.specs.Prelude.{slice_get, ◌&&◌, not}
use Rattle.std.specs.List.{list_all}
use Rattle.std.proofs.lemmas.Bool.{and_parts}
use Rattle.css_domain.specs.Meanings.{Meaning}
use Rattle.css_domain.specs.Ledgers.{Books, Claimed, classes, claimed, work, fresh, with_work, with_filing, is_among, is_all_done, done, all_numbers}
use Rattle.css_domain.specs.Ledgers.Claimed.{Work, Spent, Idle, Finished}
use Rattle.css_domain.specs.LedgerFacts.{IsLedger, IsFilingOf}
use Rattle.css_domain.proofs.Finding.{in_from_among}
use Rattle.lists.specs.Members.{IsIn}
use Rattle.lists.specs.Members.IsIn.{here, later}
use Rattle.lists.proofs.Members.{from_IsIn-filter}
use Rattle.lists.proofs.Ranges.{IsIn-range_with_len}
use Rattle.lists.proofs.Tests.{each_passes}
use Rattle.css_store.specs.Filings.{IsFiling, is_class, may_file}

work_is_in : (ns : List ℕ) (n : ℕ) → Work n ≡ work ns → IsIn n ns
work_is_in [] n e = absurd cc
work_is_in (m ∷ ns) n e = let k : m ≡ n = cc in subst (λ j. IsIn j (m ∷ ns)) k here

of_claim : (all spent : Bool) (ns : List ℕ) (n : ℕ) → Work n ≡ cond all Finished (cond spent Spent (work ns)) → IsIn n ns
of_claim true spent ns n e = absurd cc
of_claim false true ns n e = absurd cc
of_claim false false ns n e = work_is_in ns n e

-- what stands past the first list is in the second
past_end : {X : Type 0} (xs ys : List X) (k : ℕ) (x : X) → length xs ≤ k → slice_get (xs ++ ys) k ≡ Some x → IsIn x ys
past_end [] [] k x l h = absurd cc
past_end [] (y ∷ ys) zero x l h = let e : y ≡ x = cc in subst (λ z. IsIn z (y ∷ ys)) e here
past_end [] (y ∷ ys) (suc k) x l h = later y (past_end [] ys k x (omega arith) h)
past_end (z ∷ xs) ys zero x l h = absurd (omega arith)
past_end (z ∷ xs) ys (suc k) x l h = past_end xs ys k x (omega arith) h

from_take : {X : Type 0} (m : ℕ) (xs : List X) (n : ℕ) (x : X) → slice_get (take m xs) n ≡ Some x → slice_get xs n ≡ Some x
from_take zero xs n x h = absurd cc
from_take (suc m) [] n x h = absurd cc
from_take (suc m) (y ∷ xs) zero x h = h
from_take (suc m) (y ∷ xs) (suc n) x h = from_take m xs n x h

module _ {C R : Type 0} (D : Meaning C R) where
  same_classes : (l : Books C R) (k : Claimed) → length (classes D (with_work l k)) ≡ length (classes D l)
  same_classes l (Work n) = refl
  same_classes l Spent = refl
  same_classes l Idle = refl
  same_classes l Finished = refl

  -- a number that was handed out is that of a class, also afterwards
  pub claimed_within : (l new : Books C R) (n : ℕ) → Work n ≡ claimed D l → new ≡ with_work l (claimed D l) → n < length (classes D new)
  claimed_within l new n e after =
      let there = from_IsIn-filter (λ m. not (is_among m (done l)) && not (is_among m l.out)) (all_numbers D l) (of_claim (is_all_done D l) _ (fresh D l) n e) in
      let inside = IsIn-range_with_len 0 (length (classes D l)) n there.0 in
      let same : length (classes D new) ≡ length (classes D (with_work l (claimed D l))) = ap (λ (b : Books C R). length (classes D b)) after in
      omega (arith, inside.1, same, same_classes l (claimed D l))

module _ {C R : Type 0} (D : Meaning C R) (E : C → C → Bool) (same : (a b : C) → D.same a b ≡ E a b) (exact : (a b : C) → E a b ≡ true → a ≡ b) where
  pub all_same : (class : C) (rules : List R) → list_all (λ r. E (D.parent r) class) rules ≡ list_all (λ r. is_class D (Some class) (D.parent r)) rules
  all_same class [] = refl
  all_same class (r ∷ rules) = λ i. sym (same (D.parent r) class) i && all_same class rules i

  pub class_out : (l : Books C R) → IsLedger D l → (n : ℕ) → is_among n l.out ≡ true → n < length (classes D l)
  class_out l is n h = is.out_numbered n (in_from_among n l.out h)

  is_that : (o : Option C) (c : C) → is_class D o c ≡ true → o ≡ Some c
  is_that None c h = absurd cc
  is_that (Some d) c h = ap Some (sym (exact c d (sym (same c d) ∙ h)))

  module _ (l : Books C R) (n : ℕ) (rules : List R) (may : may_file D l n rules ≡ true) where
    pub out_here : IsIn n l.out
    out_here = in_from_among n l.out (and_parts (is_among n l.out) _ may).0

    made_here : (r : R) → IsIn r rules → slice_get (classes D l) n ≡ Some (D.parent r)
    made_here r i = is_that (slice_get (classes D l) n) (D.parent r) (each_passes (λ s. is_class D (slice_get (classes D l) n) (D.parent s)) (and_parts (is_among n l.out) _ may).1 i)

    -- the filing of some class is one of this class
    pub filing_here : (rulebook : ℕ) → IsFiling D rulebook rules → (c : C) → slice_get (classes D l) n ≡ Some c → IsFilingOf D rulebook c rules
    filing_here rulebook f c at = record {
      hold = f.1.hold;
      own = λ r i. let e : Some (D.parent r) ≡ Some c = sym (made_here r i) ∙ at in cc;
      complete = complete rules made_here f.1;
      small = f.1.small;
    }
      where
        complete : (rs : List R) → ((r : R) → IsIn r rs → slice_get (classes D l) n ≡ Some (D.parent r)) → IsFilingOf D rulebook f.0 rs → rs ≢ [] → D.complete rulebook c rs
        complete [] made g some = absurd (some refl)
        complete (r ∷ rs) made g some =
            let mine : D.parent r ≡ c = (let e : Some (D.parent r) ≡ Some c = sym (made r here) ∙ at in cc) in
            subst (λ d. D.complete rulebook d (r ∷ rs)) (sym (g.own r here) ∙ mine) (g.complete some)

    -- once they are filed, that class is still the parent of each
    pub own_after : (new : Books C R) → new ≡ with_filing l n rules → take (length (classes D l)) (classes D new) ≡ classes D l
        → (k : ℕ) (r : R) → length l.rules ≤ k → slice_get new.rules k ≡ Some r → slice_get (classes D new) n ≡ Some (D.parent r)
    own_after new e old k r past at =
        let i = past_end l.rules rules k r past (sym (ap (λ (b : Books C R). slice_get b.rules k) e) ∙ at) in
        from_take (length (classes D l)) (classes D new) n (D.parent r) (ap (λ cs. slice_get cs n) old ∙ made_here r i)
