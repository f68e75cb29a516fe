-- Chains of slots that wait: one more at the end.
use Rattle.std.proofs.Common.{◌≡◌, ℕ, zero, suc, ◌+◌, ◌<◌, ◌≤◌, List, [], ◌∷◌, ◌++◌, length, refl, sym, ap, subst, ◌∙◌, inl, inr, ⊎_elim, arith, get_or-set_other, true, take}
use Rattle.std.specs.Prelude.{◌⊎◌, ◌≢◌, slice_get, slice_set, slice_index, Some}
use Rattle.std.proofs.lemmas.Grind.{get_or-set_at}
use Rattle.std.proofs.lemmas.Option.{slice_get_within}
use Rattle.css_prune.specs.declared.waiting.Slot.{Slot}
use Rattle.css_prune.specs.Waiting.{HasClass, AreChained, IsWaiting, WaitsFrom, WaitsForOne, RecordWaits, AllWait}
use Rattle.css_prune.proofs.Steps.{same_or_other}
use Rattle.css_domain.specs.declared.record.Record.{Record}
use Rattle.css_domain.specs.Records.{numbers, has_same_length}
use Rattle.std.proofs.lemmas.Bool.{cases_lt}
use Rattle.lists.specs.Members.{IsIn}
use Rattle.lists.specs.Members.IsIn.{here, later}
use Rattle.lists.proofs.Members.{IsIn-append_cases}
use Rattle.lists.proofs.Numbers.{less_or_whole}
use Rattle.lists.proofs.Places.{get_left, take_next}

-- what stands in a list with one more item
pub stands_in_more : {X : Type 0} (xs : List X) (y : X) (i : ℕ) (x : X) → slice_get (xs ++ y ∷ []) i ≡ Some x → ((i < length xs) × (slice_get xs i ≡ Some x)) ⊎ ((i ≡ length xs) × (x ≡ y))
stands_in_more [] y zero x h = inr (refl, (let e : y ≡ x = cc in sym e))
stands_in_more [] y (suc i) x h = absurd cc
stands_in_more (z ∷ xs) y zero x h = inl (omega arith, h)
stands_in_more {X} (z ∷ xs) y (suc i) x h =
    ⊎_elim {C = ((suc i < length (z ∷ xs)) × (slice_get xs i ≡ Some x)) ⊎ ((suc i ≡ length (z ∷ xs)) × (x ≡ y))}
    (λ l. inl (omega (arith, l.0), l.1))
    (λ r. inr (ap suc r.0, r.1))
    (stands_in_more xs y i x h)

pub last_stands : {X : Type 0} (xs : List X) (y : X) → slice_get (xs ++ y ∷ []) (length xs) ≡ Some y
last_stands [] y = refl
last_stands (x ∷ xs) y = last_stands xs y

pub still_stands : {X : Type 0} (xs : List X) (y : X) (i : ℕ) (x : X) → slice_get xs i ≡ Some x → slice_get (xs ++ y ∷ []) i ≡ Some x
still_stands xs y i x h = get_left xs (y ∷ []) i (slice_get_within xs i x h) ∙ h

pub waits_still : (slots : List Slot) (x : Slot) (c p : ℕ) → IsWaiting slots c p → IsWaiting (slots ++ x ∷ []) c p
waits_still slots x c p w = record { i = w.i; slot = w.slot; at = still_stands slots x w.i w.slot w.at; own = w.own; by_place = w.by_place }

pub waits_now : (slots : List Slot) (x : Slot) → IsWaiting (slots ++ x ∷ []) x.class x.place
waits_now slots x = record { i = length slots; slot = x; at = last_stands slots x; own = refl; by_place = refl }

module _ (count : ℕ) (last : List ℕ) (slots : List Slot) (x : Slot) (m : ℕ) (many : m ≡ suc (length slots)) (place : x.place < count) (within : x.class < length last) (before : x.before ≡ slice_index last x.class) (a : AreChained count last slots) where
  abbrev More : List Slot
  More = slots ++ x ∷ []

  abbrev Last : List ℕ
  Last = slice_set last x.class m

  set_here : (c : ℕ) → c ≡ x.class → slice_index Last c ≡ m
  set_here c e = get_or-set_at last x.class c m 0 e within

  set_other : (c : ℕ) → c ≢ x.class → slice_index Last c ≡ slice_index last c
  set_other c o = get_or-set_other last x.class c m 0 o

  still_has : (i c : ℕ) → HasClass slots i c → HasClass More i c
  still_has i c h = record { slot = h.slot; at = still_stands slots x i h.slot h.at; own = h.own }

  last_own : (c i : ℕ) → slice_index Last c ≡ suc i → HasClass More i c
  last_own c i e =
      ⊎_elim {C = HasClass More i c}
      (λ same. let k : length slots ≡ i = omega (arith, set_here c same, e, many) in record { slot = x; at = subst (λ j. slice_get More j ≡ Some x) k (last_stands slots x); own = sym same })
      (λ o. still_has i c (a.last_own c i (sym (set_other c o) ∙ e)))
      (same_or_other c x.class)

  last_past : (i : ℕ) (s : Slot) → slice_get More i ≡ Some s → i < slice_index Last s.class
  last_past i s h =
      ⊎_elim {C = i < slice_index Last s.class}
      (λ l. ⊎_elim {C = i < slice_index Last s.class} (λ same. let k = set_here s.class same in omega (arith, k, many, l.0)) (λ o. let k = set_other s.class o in let p = a.last_past i s l.1 in omega (arith, k, p)) (same_or_other s.class x.class))
      (λ r. let k = set_here s.class (ap (λ (t : Slot). t.class) r.1) in omega (arith, k, many, r.0))
      (stands_in_more slots x i s h)

  -- the new slot's one before it
  from_last : (i : ℕ) (s : Slot) → s ≡ x → s.before ≡ suc i → slice_index last x.class ≡ suc i
  from_last i s same e = sym before ∙ sym (ap (λ (t : Slot). t.before) same) ∙ e

  before_less : (j i : ℕ) (s : Slot) → slice_get More j ≡ Some s → s.before ≡ suc i → i < j
  before_less j i s h e =
      ⊎_elim {C = i < j}
      (λ l. a.before_less j i s l.1 e)
      (λ r. let o = a.last_own x.class i (from_last i s r.1 e) in let w = slice_get_within slots i o.slot o.at in omega (arith, w, r.0))
      (stands_in_more slots x j s h)

  before_own : (j i : ℕ) (s : Slot) → slice_get More j ≡ Some s → s.before ≡ suc i → HasClass More i s.class
  before_own j i s h e =
      ⊎_elim {C = HasClass More i s.class}
      (λ l. still_has i s.class (a.before_own j i s l.1 e))
      (λ r. still_has i s.class (subst (λ c. HasClass slots i c) (sym (ap (λ (t : Slot). t.class) r.1)) (a.last_own x.class i (from_last i s r.1 e))))
      (stands_in_more slots x j s h)

  before_past : (i j : ℕ) (s t : Slot) → slice_get More j ≡ Some s → slice_get More i ≡ Some t → t.class ≡ s.class → i < j → i < s.before
  before_past i j s t hj hi same less = go (stands_in_more slots x j s hj) (stands_in_more slots x i t hi)
    where
      go : ((j < length slots) × (slice_get slots j ≡ Some s)) ⊎ ((j ≡ length slots) × (s ≡ x)) → ((i < length slots) × (slice_get slots i ≡ Some t)) ⊎ ((i ≡ length slots) × (t ≡ x)) → i < s.before
      go (inl lj) (inl li) = a.before_past i j s t lj.1 li.1 same less
      go (inl lj) (inr ri) = absurd (omega (arith, lj.0, ri.0, less))
      go (inr rj) (inr ri) = absurd (omega (arith, rj.0, ri.0, less))
      go (inr rj) (inl li) =
          let p = a.last_past i t li.1 in
          let c : t.class ≡ x.class = same ∙ ap (λ (q : Slot). q.class) rj.1 in
          let k = ap (λ d. slice_index last d) c in
          let b : s.before ≡ x.before = ap (λ (q : Slot). q.before) rj.1 in
          omega (arith, p, k, b, before)

  pub chain_more : AreChained count Last More
  chain_more =
      record {
        place = λ i s h. ⊎_elim {C = s.place < count} (λ l. a.place i s l.1) (λ r. let e = ap (λ (t : Slot). t.place) r.1 in omega (arith, e, place)) (stands_in_more slots x i s h);
        last_own = last_own;
        last_past = last_past;
        before_less = before_less;
        before_own = before_own;
        before_past = before_past;
      }

-- no slot waits yet
pub chain_start : (count : ℕ) (last : List ℕ) → ((c : ℕ) → slice_index last c ≡ 0) → AreChained count last []
chain_start count last none =
    record {
      place = λ i s h. absurd cc;
      last_own = λ c i e. absurd (let z = none c in omega (arith, z, e));
      last_past = λ i s h. absurd cc;
      before_less = λ j i s h e. absurd cc;
      before_own = λ j i s h e. absurd cc;
      before_past = λ i j s t hj hi same less. absurd cc;
    }

-- the slots of one more child wait
pub waits_next : (old new : List Slot) (place : ℕ) (r : Record) (end : ℕ) → ((c p : ℕ) → IsWaiting old c p → IsWaiting new c p) → (has_same_length r end ≡ true → IsWaiting new (slice_index (numbers r) end) place) → RecordWaits old place r end → RecordWaits new place r (end + 1)
waits_next old new place r end grows now before slot less same =
    ⊎_elim {C = IsWaiting new (slice_index (numbers r) slot) place}
    (λ l. grows (slice_index (numbers r) slot) place (before slot l same))
    (λ e. subst (λ k. IsWaiting new (slice_index (numbers r) k) place) (sym e) (now (subst (λ k. has_same_length r k ≡ true) e same)))
    (less_or_whole slot end (omega (arith, less)))

-- the slots of one more record wait
pub all_wait_next : (records : List Record) (old new : List Slot) (end : ℕ) (r : Record) → slice_get records end ≡ Some r → ((c p : ℕ) → IsWaiting old c p → IsWaiting new c p) → RecordWaits new end r (length r.children) → AllWait records old end → AllWait records new (end + 1)
all_wait_next records old new end r at grows now before place s less there =
    ⊎_elim {C = RecordWaits new place s (length s.children)}
    (λ l slot k same. grows (slice_index (numbers s) slot) place (before place s l there slot k same))
    (λ e.
    let f : slice_get records end ≡ Some s = subst (λ q. slice_get records q ≡ Some s) e there in
    let same : r ≡ s = cc in
    subst (λ q. RecordWaits new q s (length s.children)) (sym e) (subst (λ (t : Record). RecordWaits new end t (length t.children)) same now))
    (less_or_whole place end (omega (arith, less)))

module _ (count : ℕ) (last : List ℕ) (slots : List Slot) (a : AreChained count last slots) where
  -- no slot of the class comes after its last
  pub none_past_last : (c p : ℕ) → WaitsFrom slots c (slice_index last c) p → ⊥
  none_past_last c p w = let k = a.last_past w.i w.slot w.at in let m = ap (λ d. slice_index last d) w.own in omega (arith, k, m, w.past)

  -- none lies between a slot and the one before it
  pub from_before : (c i p : ℕ) (s : Slot) → slice_get slots i ≡ Some s → s.class ≡ c → WaitsFrom slots c s.before p → WaitsFrom slots c (suc i) p ⊎ (p ≡ s.place)
  from_before c i p s at own w =
      ⊎_elim {C = WaitsFrom slots c (suc i) p ⊎ (p ≡ s.place)}
      (λ less. ⊎_elim {C = WaitsFrom slots c (suc i) p ⊎ (p ≡ s.place)}
      (λ l. absurd (let k = a.before_past w.i i s w.slot at w.at (w.own ∙ sym own) l in omega (arith, k, w.past)))
      (λ e.
      let f : slice_get slots i ≡ Some w.slot = subst (λ q. slice_get slots q ≡ Some w.slot) e w.at in
      let same : w.slot ≡ s = cc in
      inr (sym w.by_place ∙ ap (λ (t : Slot). t.place) same))
      (less_or_whole w.i i (omega (arith, less))))
      (λ past. inl (record { i = w.i; slot = w.slot; at = w.at; own = w.own; by_place = w.by_place; past = past }))
      (cases_lt w.i (suc i))

  pub before_below : (i : ℕ) (s : Slot) → slice_get slots i ≡ Some s → s.before ≤ i
  before_below i s at = go s.before refl
    where
      go : (b : ℕ) → s.before ≡ b → s.before ≤ i
      go zero e = omega (arith, e)
      go (suc b) e = let l = a.before_less i b s at e in omega (arith, l, e)

-- what waits for one of the classes with one more
pub one_class_more : (slots : List Slot) (classes : List ℕ) (k d p : ℕ) → slice_get classes k ≡ Some d → WaitsForOne slots (take (suc k) classes) p → WaitsForOne slots (take k classes) p ⊎ IsWaiting slots d p
one_class_more slots classes k d p at w =
    ⊎_elim {C = WaitsForOne slots (take k classes) p ⊎ IsWaiting slots d p}
    (λ i. inl (record { class = w.class; there = i; waits = w.waits }))
    (λ i. inr (subst (λ e. IsWaiting slots e p) (only w.class d i) w.waits))
    (IsIn-append_cases (take k classes) (d ∷ []) (subst (λ (xs : List ℕ). IsIn w.class xs) (take_next classes k d at) w.there))
  where
    only : (c d : ℕ) → IsIn c (d ∷ []) → c ≡ d
    only c _ here = refl
    only c d (later _ i) = elim i [ ]

pub none_waits_for_none : (slots : List Slot) (p : ℕ) → WaitsForOne slots [] p → ⊥
none_waits_for_none slots p w = elim w.there [ ]

pub nil_if_short : (xs : List ℕ) → length xs ≡ 0 → xs ≡ []
nil_if_short [] e = refl
nil_if_short (x ∷ xs) e = absurd (omega (arith, e))
