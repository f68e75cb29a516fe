-- The numbers that are out, by stage.
use Rattle.std.proofs.Common.{◌≡◌, ℕ, zero, suc, ◌+◌, ◌-◌, ◌<◌, ◌≤◌, Bool, true, false, cond, nat_lt, List, [], ◌∷◌, ◌++◌, replicate, length, take, drop, refl, sym, ap, subst, ◌∙◌, ⊎_elim, arith}
use Rattle.std.specs.Prelude.{◌&&◌, ◌==◌, not, filter, slice_set, Some, None, position}
use Rattle.std.proofs.lemmas.List.{length-drop}
use Rattle.std.specs.List.{list_all, range_with_len, position_or_len, AllByRecursion}
use Rattle.std.specs.List.Sorted.{IsStrictlySortedBy}
use Rattle.std.specs.Ordering.{nat_cmp, match_ordering}
use Rattle.std.specs.declared.cmp.Ordering.{Ordering}
use Rattle.std.specs.declared.cmp.Ordering.TheVariants.{Less, Equal, Greater}
use Rattle.std.proofs.lemmas.Bool.Decides.{nat_tests}
use Rattle.std.proofs.lemmas.Bool.{eq-eqb, or_parts}
use Rattle.std.proofs.Math.Bool.{and-false}
use Rattle.sequences.specs.Ascending.{insert_new}
use Rattle.css_domain.specs.Ledgers.{is_among, without, work}
use Rattle.css_domain.proofs.Finding.{same_or_other}
use Rattle.css_domain.specs.Ledgers.Claimed.{Work, Idle}
use Rattle.css_ledger.specs.declared.stage.Stage.{Stage}
use Rattle.css_ledger.specs.declared.stage.Stage.TheVariants.{Fresh, Out, Done}
use Rattle.css_ledger.specs.Stages.{is_fresh, is_out, is_done, stage_at, outs_from, outs, IsNoneFresh}
use Rattle.lists.proofs.Places.{take_whole}

-- ---- numbers
pub other_number : (a b : ℕ) → a < b → ((b == a) ≡ false) × ((a == b) ≡ false)
other_number a b e = (grind (arith, nat_tests), grind (arith, nat_tests))

pub is_less : (a b : ℕ) → a < b → nat_cmp a b ≡ Less
is_less a b h = let e : nat_lt a b ≡ true = grind (arith, nat_tests) in rw e refl

pub is_greater : (a b : ℕ) → b < a → nat_cmp a b ≡ Greater
is_greater a b h = let e : nat_lt a b ≡ false = grind (arith, nat_tests) in let f : (a == b) ≡ false = grind (arith, nat_tests) in rw (e, f) refl

-- ---- the numbers that are out
pub outs_above : (i : ℕ) (stages : List Stage) (k : ℕ) → k ≤ i → AllByRecursion (λ m. k ≤ m) (outs_from i stages)
outs_above i [] k h = tt
outs_above i (Fresh ∷ stages) k h = outs_above (suc i) stages k (omega (arith, h))
outs_above i (Done ∷ stages) k h = outs_above (suc i) stages k (omega (arith, h))
outs_above i (Out ∷ stages) k h = (h, outs_above (suc i) stages k (omega (arith, h)))

none_below : (n k : ℕ) (ns : List ℕ) → n < k → AllByRecursion (λ m. k ≤ m) ns → is_among n ns ≡ false
none_below n k [] l a = refl
none_below n k (m ∷ ns) l a = rw ((other_number n m (omega (arith, l, a.0))).1) (none_below n k ns l a.1)

pub among_outs : (i n k : ℕ) (stages : List Stage) → n ≡ i + k → is_among n (outs_from i stages) ≡ is_out (stage_at stages k)
among_outs i n k [] e = refl
among_outs i n zero (Out ∷ stages) e = rw (eq-eqb n i (omega (arith, e))) refl
among_outs i n zero (Fresh ∷ stages) e = none_below n (suc i) (outs_from (suc i) stages) (omega (arith, e)) (outs_above (suc i) stages (suc i) (omega arith))
among_outs i n zero (Done ∷ stages) e = none_below n (suc i) (outs_from (suc i) stages) (omega (arith, e)) (outs_above (suc i) stages (suc i) (omega arith))
among_outs i n (suc k) (Out ∷ stages) e = rw ((other_number i n (omega (arith, e))).0) (among_outs (suc i) n k stages (omega (arith, e)))
among_outs i n (suc k) (Fresh ∷ stages) e = among_outs (suc i) n k stages (omega (arith, e))
among_outs i n (suc k) (Done ∷ stages) e = among_outs (suc i) n k stages (omega (arith, e))

pub is_out_by_stage : (n : ℕ) (stages : List Stage) → is_among n (outs stages) ≡ is_out (stage_at stages n)
unfolding outs
is_out_by_stage n stages = among_outs 0 n n stages (omega arith)

insert_front : (n : ℕ) (ns : List ℕ) → AllByRecursion (λ m. suc n ≤ m) ns → insert_new nat_cmp n ns ≡ n ∷ ns
insert_front n [] a = refl
insert_front n (m ∷ ns) a = rw (is_less n m (omega (arith, a.0))) refl

without_none : (n : ℕ) (ns : List ℕ) → AllByRecursion (λ m. suc n ≤ m) ns → without n ns ≡ ns
without_none n [] a = refl
without_none n (m ∷ ns) a = rw ((other_number n m (omega (arith, a.0))).1) (ap (λ (xs : List ℕ). m ∷ xs) (without_none n ns a.1))

above : (i n : ℕ) (stages : List Stage) → n ≡ i + 0 → AllByRecursion (λ m. suc n ≤ m) (outs_from (suc i) stages)
above i n stages e = outs_above (suc i) stages (suc n) (omega (arith, e))

pub outs_with : (i n k : ℕ) (stages : List Stage) → n ≡ i + k → k < length stages → is_out (stage_at stages k) ≡ false → outs_from i (slice_set stages k Out) ≡ insert_new nat_cmp n (outs_from i stages)
outs_with i n k [] e h f = absurd (omega (arith, h))
outs_with i n zero (Out ∷ stages) e h f = absurd cc
outs_with i n zero (Fresh ∷ stages) e h f = let s : i ≡ n = omega (arith, e) in rw s (sym (insert_front n (outs_from (suc n) stages) (above n n stages (omega arith))))
outs_with i n zero (Done ∷ stages) e h f = let s : i ≡ n = omega (arith, e) in rw s (sym (insert_front n (outs_from (suc n) stages) (above n n stages (omega arith))))
outs_with i n (suc k) (Out ∷ stages) e h f = rw (is_greater n i (omega (arith, e))) (ap (λ (xs : List ℕ). i ∷ xs) (outs_with (suc i) n k stages (omega (arith, e)) (omega (arith, h)) f))
outs_with i n (suc k) (Fresh ∷ stages) e h f = outs_with (suc i) n k stages (omega (arith, e)) (omega (arith, h)) f
outs_with i n (suc k) (Done ∷ stages) e h f = outs_with (suc i) n k stages (omega (arith, e)) (omega (arith, h)) f

pub outs_set_out : (n : ℕ) (stages : List Stage) → n < length stages → is_out (stage_at stages n) ≡ false → outs (slice_set stages n Out) ≡ insert_new nat_cmp n (outs stages)
unfolding outs
outs_set_out n stages h f = outs_with 0 n n stages (omega arith) h f

pub outs_less : (i n k : ℕ) (stages : List Stage) (v : Stage) → is_out v ≡ false → n ≡ i + k → k < length stages → outs_from i (slice_set stages k v) ≡ without n (outs_from i stages)
outs_less i n k stages Out f e h = absurd cc
outs_less i n k [] v f e h = absurd (omega (arith, h))
outs_less i n zero (Out ∷ stages) Fresh f e h = rw (eq-eqb n i (omega (arith, e))) (sym (without_none n (outs_from (suc i) stages) (above i n stages e)))
outs_less i n zero (Out ∷ stages) Done f e h = rw (eq-eqb n i (omega (arith, e))) (sym (without_none n (outs_from (suc i) stages) (above i n stages e)))
outs_less i n zero (Fresh ∷ stages) Fresh f e h = sym (without_none n (outs_from (suc i) stages) (above i n stages e))
outs_less i n zero (Fresh ∷ stages) Done f e h = sym (without_none n (outs_from (suc i) stages) (above i n stages e))
outs_less i n zero (Done ∷ stages) Fresh f e h = sym (without_none n (outs_from (suc i) stages) (above i n stages e))
outs_less i n zero (Done ∷ stages) Done f e h = sym (without_none n (outs_from (suc i) stages) (above i n stages e))
outs_less i n (suc k) (Out ∷ stages) v f e h = rw ((other_number i n (omega (arith, e))).0) (ap (λ (xs : List ℕ). i ∷ xs) (outs_less (suc i) n k stages v f (omega (arith, e)) (omega (arith, h))))
outs_less i n (suc k) (Fresh ∷ stages) v f e h = outs_less (suc i) n k stages v f (omega (arith, e)) (omega (arith, h))
outs_less i n (suc k) (Done ∷ stages) v f e h = outs_less (suc i) n k stages v f (omega (arith, e)) (omega (arith, h))

pub outs_set_other : (n : ℕ) (stages : List Stage) (v : Stage) → is_out v ≡ false → n < length stages → outs (slice_set stages n v) ≡ without n (outs stages)
unfolding outs
outs_set_other n stages v f h = outs_less 0 n n stages v f (omega arith) h

-- how many are out
abbrev one_if : Bool → ℕ
one_if b = cond b 1 0

pub length-set_from : (i k : ℕ) (stages : List Stage) (v : Stage) → k < length stages → length (outs_from i (slice_set stages k v)) + one_if (is_out (stage_at stages k)) ≡ length (outs_from i stages) + one_if (is_out v)
length-set_from i k [] v h = absurd (omega (arith, h))
length-set_from i zero (Out ∷ stages) Out h = refl
length-set_from i zero (Out ∷ stages) Fresh h = omega arith
length-set_from i zero (Out ∷ stages) Done h = omega arith
length-set_from i zero (Fresh ∷ stages) Out h = omega arith
length-set_from i zero (Fresh ∷ stages) Fresh h = refl
length-set_from i zero (Fresh ∷ stages) Done h = refl
length-set_from i zero (Done ∷ stages) Out h = omega arith
length-set_from i zero (Done ∷ stages) Fresh h = refl
length-set_from i zero (Done ∷ stages) Done h = refl
length-set_from i (suc k) (Out ∷ stages) v h = omega (arith, length-set_from (suc i) k stages v (omega (arith, h)))
length-set_from i (suc k) (Fresh ∷ stages) v h = length-set_from (suc i) k stages v (omega (arith, h))
length-set_from i (suc k) (Done ∷ stages) v h = length-set_from (suc i) k stages v (omega (arith, h))

pub length-outs_set : (n : ℕ) (stages : List Stage) (v : Stage) → n < length stages → length (outs (slice_set stages n v)) + one_if (is_out (stage_at stages n)) ≡ length (outs stages) + one_if (is_out v)
unfolding outs
length-outs_set n stages v h = length-set_from 0 n stages v h

less_after : (k : ℕ) (ns : List ℕ) → AllByRecursion (λ m. suc k ≤ m) ns → AllByRecursion (λ m. nat_cmp k m ≡ Less) ns
less_after k [] a = tt
less_after k (m ∷ ns) a = (is_less k m (omega (arith, a.0)), less_after k ns a.1)

pub outs_ascend_from : (i : ℕ) (stages : List Stage) → IsStrictlySortedBy nat_cmp (outs_from i stages)
unfolding IsStrictlySortedBy
outs_ascend_from i [] = tt
outs_ascend_from i (Fresh ∷ stages) = outs_ascend_from (suc i) stages
outs_ascend_from i (Done ∷ stages) = outs_ascend_from (suc i) stages
outs_ascend_from i (Out ∷ stages) = (less_after i (outs_from (suc i) stages) (outs_above (suc i) stages (suc i) (omega arith)), outs_ascend_from (suc i) stages)

pub outs_ascend : (stages : List Stage) → IsStrictlySortedBy nat_cmp (outs stages)
unfolding outs
outs_ascend stages = outs_ascend_from 0 stages

-- ---- stages
pub stage_set_same : (n : ℕ) (stages : List Stage) (v : Stage) → n < length stages → stage_at (slice_set stages n v) n ≡ v
stage_set_same n [] v h = absurd (omega (arith, h))
stage_set_same zero (s ∷ stages) v h = refl
stage_set_same (suc n) (s ∷ stages) v h = stage_set_same n stages v (omega (arith, h))

pub stage_set_other : (n m : ℕ) (stages : List Stage) (v : Stage) → (n ≡ m → ⊥) → stage_at (slice_set stages n v) m ≡ stage_at stages m
stage_set_other n m [] v h = refl
stage_set_other zero zero (s ∷ stages) v h = absurd (h refl)
stage_set_other zero (suc m) (s ∷ stages) v h = refl
stage_set_other (suc n) zero (s ∷ stages) v h = refl
stage_set_other (suc n) (suc m) (s ∷ stages) v h = stage_set_other n m stages v (λ e. h (ap suc e))

pub within_if_out : (n : ℕ) (stages : List Stage) → is_out (stage_at stages n) ≡ true → n < length stages
within_if_out n [] h = absurd cc
within_if_out zero (s ∷ stages) h = omega arith
within_if_out (suc n) (s ∷ stages) h = omega (arith, within_if_out n stages h)

-- the least fresh number
pub work_is : (q : ℕ → Bool) (a : ℕ) (stages : List Stage) → ((i : ℕ) → q (a + i) ≡ is_fresh (stage_at stages i)) → work (filter q (range_with_len a (length stages))) ≡ cond (nat_lt (position_or_len is_fresh stages) (length stages)) (Work (a + position_or_len is_fresh stages)) Idle
work_is q a [] f = refl
work_is q a (Fresh ∷ stages) f = let e : a + 0 ≡ a = omega arith in let g : q a ≡ true = sym (ap q e) ∙ f 0 in let l : nat_lt 0 (suc (length stages)) ≡ true = grind (arith, nat_tests) in rw (g, l, e) refl
work_is q a (Out ∷ stages) f =
    let z : a + 0 ≡ a = omega arith in
    let g : q a ≡ false = sym (ap q z) ∙ f 0 in
    let ih = work_is q (a + 1) stages (λ i. (let e : a + 1 + i ≡ a + suc i = omega arith in ap q e) ∙ f (suc i)) in
    let l : nat_lt (1 + position_or_len is_fresh stages) (suc (length stages)) ≡ nat_lt (position_or_len is_fresh stages) (length stages) = grind (arith, nat_tests) in
    let e : a + (1 + position_or_len is_fresh stages) ≡ a + 1 + position_or_len is_fresh stages = omega arith in
    rw (g, l, e) ih
work_is q a (Done ∷ stages) f =
    let z : a + 0 ≡ a = omega arith in
    let g : q a ≡ false = sym (ap q z) ∙ f 0 in
    let ih = work_is q (a + 1) stages (λ i. (let e : a + 1 + i ≡ a + suc i = omega arith in ap q e) ∙ f (suc i)) in
    let l : nat_lt (1 + position_or_len is_fresh stages) (suc (length stages)) ≡ nat_lt (position_or_len is_fresh stages) (length stages) = grind (arith, nat_tests) in
    let e : a + (1 + position_or_len is_fresh stages) ≡ a + 1 + position_or_len is_fresh stages = omega arith in
    rw (g, l, e) ih

-- all are done where none is fresh and none is out
pub all_done : (i : ℕ) (stages : List Stage) → list_all is_done stages ≡ (not (nat_lt (position_or_len is_fresh stages) (length stages)) && (length (outs_from i stages) == 0))
all_done i [] = refl
all_done i (Fresh ∷ stages) = let l : nat_lt 0 (suc (length stages)) ≡ true = grind (arith, nat_tests) in rw l refl
all_done i (Out ∷ stages) = let l : (suc (length (outs_from (suc i) stages)) == 0) ≡ false = grind (arith, nat_tests) in rw l (sym (and-false (not (nat_lt (1 + position_or_len is_fresh stages) (suc (length stages))))))
all_done i (Done ∷ stages) = let l : nat_lt (1 + position_or_len is_fresh stages) (suc (length stages)) ≡ nat_lt (position_or_len is_fresh stages) (length stages) = grind (arith, nat_tests) in rw l (all_done (suc i) stages)

pub all_done_outs : (stages : List Stage) → list_all is_done stages ≡ (not (nat_lt (position_or_len is_fresh stages) (length stages)) && (length (outs stages) == 0))
unfolding outs
all_done_outs stages = all_done 0 stages

pub list_all_stages : (q : ℕ → Bool) (a : ℕ) (stages : List Stage) → ((i : ℕ) → q (a + i) ≡ is_done (stage_at stages i)) → list_all q (range_with_len a (length stages)) ≡ list_all is_done stages
list_all_stages q a [] f = refl
list_all_stages q a (s ∷ stages) f =
    let z : a + 0 ≡ a = omega arith in
    let g : q a ≡ is_done s = sym (ap q z) ∙ f 0 in
    let ih = list_all_stages q (a + 1) stages (λ i. (let e : a + 1 + i ≡ a + suc i = omega arith in ap q e) ∙ f (suc i)) in
    rw (g, ih) refl

pub length-set_stage : (stages : List Stage) (n : ℕ) (v : Stage) → length (slice_set stages n v) ≡ length stages
length-set_stage [] n v = refl
length-set_stage (s ∷ stages) zero v = refl
length-set_stage (s ∷ stages) (suc n) v = ap suc (length-set_stage stages n v)

pub first_is_fresh : (stages : List Stage) → position_or_len is_fresh stages < length stages → is_fresh (stage_at stages (position_or_len is_fresh stages)) ≡ true
first_is_fresh [] h = absurd (omega (arith, h))
first_is_fresh (Fresh ∷ stages) h = refl
first_is_fresh (Out ∷ stages) h = let e : 1 + position_or_len is_fresh stages ≡ suc (position_or_len is_fresh stages) = omega arith in rw e (first_is_fresh stages (omega (arith, h)))
first_is_fresh (Done ∷ stages) h = let e : 1 + position_or_len is_fresh stages ≡ suc (position_or_len is_fresh stages) = omega arith in rw e (first_is_fresh stages (omega (arith, h)))

-- ---- fresh stages at the end
pub outs_fresh_from : (i : ℕ) (stages : List Stage) (k : ℕ) → outs_from i (stages ++ replicate k Fresh) ≡ outs_from i stages
outs_fresh_from i [] zero = refl
outs_fresh_from i [] (suc k) = outs_fresh_from (suc i) [] k
outs_fresh_from i (Out ∷ stages) k = ap (λ (xs : List ℕ). i ∷ xs) (outs_fresh_from (suc i) stages k)
outs_fresh_from i (Fresh ∷ stages) k = outs_fresh_from (suc i) stages k
outs_fresh_from i (Done ∷ stages) k = outs_fresh_from (suc i) stages k

pub outs_fresh : (stages : List Stage) (k : ℕ) → outs (stages ++ replicate k Fresh) ≡ outs stages
unfolding outs
outs_fresh stages k = outs_fresh_from 0 stages k

pub done_fresh : (stages : List Stage) (k n : ℕ) → is_done (stage_at (stages ++ replicate k Fresh) n) ≡ is_done (stage_at stages n)
done_fresh [] zero n = refl
done_fresh [] (suc k) zero = refl
done_fresh [] (suc k) (suc n) = done_fresh [] k n
done_fresh (s ∷ stages) k zero = refl
done_fresh (s ∷ stages) k (suc n) = done_fresh stages k n

pub within_if_done : (n : ℕ) (stages : List Stage) → is_done (stage_at stages n) ≡ true → n < length stages
within_if_done n [] h = absurd cc
within_if_done zero (s ∷ stages) h = omega arith
within_if_done (suc n) (s ∷ stages) h = omega (arith, within_if_done n stages h)

-- where none is out
pub none_out_from : (i : ℕ) (stages : List Stage) → ((n : ℕ) → n < length stages → is_out (stage_at stages n) ≡ false) → outs_from i stages ≡ []
none_out_from i [] f = refl
none_out_from i (Fresh ∷ stages) f = none_out_from (suc i) stages (λ n h. f (suc n) (omega (arith, h)))
none_out_from i (Done ∷ stages) f = none_out_from (suc i) stages (λ n h. f (suc n) (omega (arith, h)))
none_out_from i (Out ∷ stages) f = absurd (let e = f 0 (omega arith) in cc)

pub none_out : (stages : List Stage) → ((n : ℕ) → n < length stages → is_out (stage_at stages n) ≡ false) → outs stages ≡ []
unfolding outs
none_out stages f = none_out_from 0 stages f

not_out_or_done : (s : Stage) → is_out s ≡ true → is_done s ≡ false
not_out_or_done Out e = refl
not_out_or_done Fresh e = refl
not_out_or_done Done e = absurd cc

-- a class that was out is fresh
pub made_fresh : (stages : List Stage) (k : ℕ) → is_out (stage_at stages k) ≡ true → (n : ℕ) → is_done (stage_at (slice_set stages k Fresh) n) ≡ is_done (stage_at stages n)
made_fresh stages k o n =
    ⊎_elim {C = is_done (stage_at (slice_set stages k Fresh) n) ≡ is_done (stage_at stages n)}
    (λ e. subst (λ m. is_done (stage_at (slice_set stages k Fresh) m) ≡ is_done (stage_at stages m)) e (ap is_done (stage_set_same k stages Fresh (within_if_out k stages o)) ∙ sym (not_out_or_done (stage_at stages k) o)))
    (λ d. ap is_done (stage_set_other k n stages Fresh d))
    (same_or_other k n)

pub none_out_below : (stages : List Stage) (k : ℕ) → k < length stages → ((n : ℕ) → n < k → is_out (stage_at stages n) ≡ false) → (n : ℕ) → n < k + 1 → is_out (stage_at (slice_set stages k Fresh) n) ≡ false
none_out_below stages k small f n h =
    ⊎_elim {C = is_out (stage_at (slice_set stages k Fresh) n) ≡ false}
    (λ e. subst (λ m. is_out (stage_at (slice_set stages k Fresh) m) ≡ false) e (ap is_out (stage_set_same k stages Fresh small)))
    (λ d. ap is_out (stage_set_other k n stages Fresh d) ∙ f n (let g : (k ≡ n → ⊥) = d in omega (arith, h, g)))
    (same_or_other k n)

pub without_absent : (n : ℕ) (ns : List ℕ) → is_among n ns ≡ false → without n ns ≡ ns
without_absent n [] h = refl
without_absent n (m ∷ ns) h = let b = or_parts (n == m) (is_among n ns) h in rw b.0 (ap (λ (xs : List ℕ). m ∷ xs) (without_absent n ns b.1))

-- ---- no class below the low mark is fresh
pub none_fresh_within : (low : ℕ) (stages : List Stage) → IsNoneFresh low stages → low ≤ length stages
none_fresh_within zero stages f = omega arith
none_fresh_within (suc low) [] f = absurd (let e = f 0 (omega arith) in cc)
none_fresh_within (suc low) (s ∷ stages) f = omega (arith, none_fresh_within low stages (λ n h. f (suc n) (omega (arith, h))))

pub fresh_past_low : (low : ℕ) (stages : List Stage) → IsNoneFresh low stages → low + position_or_len is_fresh (drop low stages) ≡ position_or_len is_fresh stages
fresh_past_low zero stages f = omega arith
fresh_past_low (suc low) [] f = absurd (let e = f 0 (omega arith) in cc)
fresh_past_low (suc low) (Fresh ∷ stages) f = absurd (let e = f 0 (omega arith) in cc)
fresh_past_low (suc low) (Out ∷ stages) f = omega (arith, fresh_past_low low stages (λ n h. f (suc n) (omega (arith, h))))
fresh_past_low (suc low) (Done ∷ stages) f = omega (arith, fresh_past_low low stages (λ n h. f (suc n) (omega (arith, h))))

pub none_before_first : (stages : List Stage) → IsNoneFresh (position_or_len is_fresh stages) stages
none_before_first [] n h = absurd (omega (arith, h))
none_before_first (Fresh ∷ stages) n h = absurd (omega (arith, h))
none_before_first (Out ∷ stages) zero h = refl
none_before_first (Out ∷ stages) (suc n) h = none_before_first stages n (omega (arith, h))
none_before_first (Done ∷ stages) zero h = refl
none_before_first (Done ∷ stages) (suc n) h = none_before_first stages n (omega (arith, h))

-- a stage is set that isn't fresh
pub none_fresh_set : (low k : ℕ) (stages : List Stage) (v : Stage) → is_fresh v ≡ false → k < length stages → IsNoneFresh low stages → IsNoneFresh low (slice_set stages k v)
none_fresh_set low k stages v e small f n h =
    ⊎_elim {C = is_fresh (stage_at (slice_set stages k v) n) ≡ false}
    (λ same. subst (λ m. is_fresh (stage_at (slice_set stages k v) m) ≡ false) same (ap is_fresh (stage_set_same k stages v small) ∙ e))
    (λ other. ap is_fresh (stage_set_other k n stages v other) ∙ f n h)
    (same_or_other k n)

-- the least fresh one is out now
pub none_fresh_out : (k : ℕ) (stages : List Stage) → k ≡ position_or_len is_fresh stages → k < length stages → IsNoneFresh (k + 1) (slice_set stages k Out)
none_fresh_out k stages e small n h =
    ⊎_elim {C = is_fresh (stage_at (slice_set stages k Out) n) ≡ false}
    (λ same. subst (λ m. is_fresh (stage_at (slice_set stages k Out) m) ≡ false) same (ap is_fresh (stage_set_same k stages Out small)))
    (λ other. ap is_fresh (stage_set_other k n stages Out other) ∙ none_before_first stages n (let g : (k ≡ n → ⊥) = other in omega (arith, h, e, g)))
    (same_or_other k n)

-- a class at the mark or above it is fresh again
pub none_fresh_back : (low k : ℕ) (stages : List Stage) (v : Stage) → low ≤ k → IsNoneFresh low stages → IsNoneFresh low (slice_set stages k v)
none_fresh_back low k stages v above f n h = ap is_fresh (stage_set_other k n stages v (λ e. absurd (omega (arith, e, h, above)))) ∙ f n h

pub none_fresh_less : (low less : ℕ) (stages : List Stage) → less ≤ low → IsNoneFresh low stages → IsNoneFresh less stages
none_fresh_less low less stages h f n small = f n (omega (arith, h, small))

pub none_fresh_more : (low : ℕ) (stages : List Stage) (k : ℕ) → IsNoneFresh low stages → IsNoneFresh low (stages ++ replicate k Fresh)
none_fresh_more low [] k f n h = absurd (let e = f n h in cc)
none_fresh_more low (s ∷ stages) k f zero h = f zero h
none_fresh_more low (s ∷ stages) k f (suc n) h = none_fresh_more (low - 1) stages k (λ m small. f (suc m) (omega (arith, small))) n (omega (arith, h))

-- what a number tells that is there only by a test
pub none_at : (b : Bool) (n : ℕ) → None ≡ cond b (Some n) None → b ≡ false
none_at true n e = absurd cc
none_at false n e = refl

pub some_at : (b : Bool) (n m : ℕ) → Some m ≡ cond b (Some n) None → (b ≡ true) × (n ≡ m)
some_at true n m e = (refl, (let f : n ≡ m = cc in f))
some_at false n m e = absurd cc

less_by : (a n low : ℕ) → low ≤ n → nat_lt (low + a) n ≡ nat_lt a (n - low)
less_by a n low h = grind (arith, nat_tests)

past_low : (low : ℕ) (stages : List Stage) → IsNoneFresh low stages → nat_lt (position_or_len is_fresh stages) (length stages) ≡ nat_lt (position_or_len is_fresh (drop low stages)) (length (drop low stages))
past_low low stages f =
    ap (λ k. nat_lt k (length stages)) (sym (fresh_past_low low stages f))
    ∙ less_by (position_or_len is_fresh (drop low stages)) (length stages) low (none_fresh_within low stages f)
    ∙ ap (nat_lt (position_or_len is_fresh (drop low stages))) (sym (length-drop low stages))

pub least_none : (low : ℕ) (stages : List Stage) → IsNoneFresh low stages → None ≡ position is_fresh (drop low stages) → None ≡ position is_fresh stages
least_none low stages f e = rw (past_low low stages f ∙ none_at (nat_lt (position_or_len is_fresh (drop low stages)) (length (drop low stages))) (position_or_len is_fresh (drop low stages)) e) refl

pub least_some : (low : ℕ) (stages : List Stage) (n : ℕ) → IsNoneFresh low stages → Some n ≡ position is_fresh (drop low stages) → Some (low + n) ≡ position is_fresh stages
least_some low stages n f e =
    let a = some_at (nat_lt (position_or_len is_fresh (drop low stages)) (length (drop low stages))) (position_or_len is_fresh (drop low stages)) n e in
    let here : low + n ≡ position_or_len is_fresh stages = omega (arith, a.1, fresh_past_low low stages f) in
    rw (past_low low stages f ∙ a.0) (ap Some here)

pub least_within : (low : ℕ) (stages : List Stage) (n : ℕ) → IsNoneFresh low stages → Some n ≡ position is_fresh (drop low stages) → low + n < length stages
least_within low stages n f e =
    let a = some_at (nat_lt (position_or_len is_fresh (drop low stages)) (length (drop low stages))) (position_or_len is_fresh (drop low stages)) n e in
    let small : n < length (drop low stages) = (let t = a.0 in let s = a.1 in grind (arith, nat_tests)) in
    omega (arith, small, length-drop low stages)

pub rest_whole : (low : ℕ) (stages : List Stage) → take (length stages - low) (drop low stages) ≡ drop low stages
rest_whole low stages = ap (λ k. take k (drop low stages)) (sym (length-drop low stages)) ∙ take_whole (drop low stages)

-- what was inserted is taken out again
pub without_inserted : (n : ℕ) (ns : List ℕ) → is_among n ns ≡ false → without n (insert_new nat_cmp n ns) ≡ ns
without_inserted n [] h = rw (eq-eqb n n refl) refl
without_inserted n (m ∷ ns) h = go (nat_cmp n m) (or_parts (n == m) (is_among n ns) h) (without_inserted n ns)
  where
    go : (o : Ordering) → ((n == m) ≡ false) × (is_among n ns ≡ false) → (is_among n ns ≡ false → without n (insert_new nat_cmp n ns) ≡ ns) → without n (match_ordering o (n ∷ m ∷ ns) (m ∷ ns) (m ∷ insert_new nat_cmp n ns)) ≡ m ∷ ns
    go Less b again = rw (eq-eqb n n refl) (without_absent n (m ∷ ns) h)
    go Equal b again = without_absent n (m ∷ ns) h
    go Greater b again = rw b.0 (ap (λ (xs : List ℕ). m ∷ xs) (again b.1))
