-- One class more in the order.
use Rattle.std.proofs.Common.{◌≡◌, ℕ, zero, suc, ◌+◌, ◌<◌, ◌≤◌, Bool, true, false, cond, List, [], ◌∷◌, ◌++◌, length, get_or, take, refl, sym, ap, subst, ◌∙◌, inl, inr, ⊎_elim, arith, get_or-set_other}
use Rattle.std.specs.Prelude.{◌⊎◌, ◌==◌, nat_eq, slice_get, slice_set, slice_index, map, Some, None}
use Rattle.std.specs.List.{list_any, position_or_len, range_with_len}
use Rattle.std.proofs.lemmas.Bool.{eqb-true, eq-eqb}
use Rattle.std.proofs.lemmas.Grind.{get_or-set_at}
use Rattle.std.proofs.lemmas.List.Folds.{list_any-append}
use Rattle.std.proofs.lemmas.List.FromFn.{length-range_with_len}
use Rattle.lists.specs.Members.IsIn.{here, later}
use Rattle.lists.specs.Added.{with_new, with_all_new}
use Rattle.lists.proofs.Added.{position_stays, position_new, position_added, all_distinct, all_new_append}
use Rattle.lists.proofs.Numbers.{less_or_whole}
use Rattle.lists.specs.Members.{IsIn, NoRepeats}
use Rattle.lists.proofs.Members.{IsIn-append_cases}
use Rattle.lists.proofs.Injections.{length-le_from_injection}
use Rattle.lists.proofs.Ranges.{in_range_with_len}
use Rattle.css_domain.specs.Added.{with_children, order_from}
use Rattle.css_domain.proofs.Finding.{same_or_other}
use Rattle.std.proofs.lemmas.Option.{slice_get_past}
use Rattle.std.proofs.Math.Bool.{or-false, or-true}
use Rattle.css_prune.specs.Places.{mark, ArePlaces}

own : (n : ℕ) → nat_eq n n ≡ true
own n = eq-eqb n n refl

length-set_number : (xs : List ℕ) (i v : ℕ) → length (slice_set xs i v) ≡ length xs
length-set_number [] i v = refl
length-set_number (x ∷ xs) zero v = refl
length-set_number (x ∷ xs) (suc i) v = ap suc (length-set_number xs i v)

pub no_longer : (order places : List ℕ) → ArePlaces order places → length order ≤ length places
no_longer order places a = let l = length-range_with_len 0 (length places) in let i = length-le_from_injection (λ (x : ℕ). x) (range_with_len 0 (length places)) a.distinct (λ x h. in_range_with_len 0 (length places) x (omega arith) (let b = a.below x h in omega (arith, b))) (λ x z hx hz e. e) in omega (arith, l, i)

mark_none : (order : List ℕ) (d : ℕ) → mark order d ≡ 0 → list_any (nat_eq d) order ≡ false
mark_none order d h = go (list_any (nat_eq d) order) refl h
  where
    go : (b : Bool) → list_any (nat_eq d) order ≡ b → cond b (suc (position_or_len (nat_eq d) order)) 0 ≡ 0 → list_any (nat_eq d) order ≡ false
    go true e f = absurd (omega (arith, f))
    go false e f = e

mark_some : (order : List ℕ) (d : ℕ) → (mark order d ≡ 0 → ⊥) → list_any (nat_eq d) order ≡ true
mark_some order d h = go (list_any (nat_eq d) order) refl h
  where
    go : (b : Bool) → list_any (nat_eq d) order ≡ b → (cond b (suc (position_or_len (nat_eq d) order)) 0 ≡ 0 → ⊥) → list_any (nat_eq d) order ≡ true
    go true e f = e
    go false e f = absurd (f refl)

mark_new : (order : List ℕ) (d : ℕ) → list_any (nat_eq d) order ≡ false → mark (order ++ d ∷ []) d ≡ suc (length order)
mark_new order d h =
    let a : list_any (nat_eq d) (order ++ d ∷ []) ≡ true = list_any-append (nat_eq d) order (d ∷ []) ∙ rw (own d) (or-true (list_any (nat_eq d) order)) in
    let p : position_or_len (nat_eq d) (order ++ d ∷ []) ≡ length order = at_end order h in
    rw (a, p) refl
  where
    at_end : (xs : List ℕ) → list_any (nat_eq d) xs ≡ false → position_or_len (nat_eq d) (xs ++ d ∷ []) ≡ length xs
    at_end xs e = (let g : with_new nat_eq xs d ≡ xs ++ d ∷ [] = rw e refl in ap (position_or_len (nat_eq d)) (sym g)) ∙ position_added nat_eq own d xs ∙ position_new nat_eq d xs e

mark_other : (order : List ℕ) (d e : ℕ) → (e ≡ d → ⊥) → mark (order ++ e ∷ []) d ≡ mark order d
mark_other order d e o = go (list_any (nat_eq d) order) refl
  where
    differs : (d == e) ≡ false
    differs = at (d == e) refl
      where
        at : (b : Bool) → (d == e) ≡ b → (d == e) ≡ false
        at true f = absurd (o (sym (eqb-true d e f)))
        at false f = f

    any : list_any (nat_eq d) (order ++ e ∷ []) ≡ list_any (nat_eq d) order
    any = list_any-append (nat_eq d) order (e ∷ []) ∙ rw differs (or-false (list_any (nat_eq d) order))

    go : (b : Bool) → list_any (nat_eq d) order ≡ b → mark (order ++ e ∷ []) d ≡ mark order d
    go true f = let p = position_stays nat_eq d order (e ∷ []) f in rw (any, f, p) refl
    go false f = rw (any, f) refl

pub there_already : (order places : List ℕ) (d : ℕ) → ArePlaces order places → d < length places → (slice_index places d ≡ 0 → ⊥) → with_new nat_eq order d ≡ order
there_already order places d a h n = let t = mark_some order d (λ e. n (a.at d h ∙ e)) in rw t refl

pub placed : (order places : List ℕ) (d : ℕ) → ArePlaces order places → d < length places → slice_index places d ≡ 0 → (with_new nat_eq order d ≡ order ++ d ∷ []) × ArePlaces (order ++ d ∷ []) (slice_set places d (suc (length order)))
placed order places d a h z =
    let f = mark_none order d (sym (a.at d h) ∙ z) in
    let grown : with_new nat_eq order d ≡ order ++ d ∷ [] = rw f refl in (
      grown,
      record {
        at = λ e i. go e (same_or_other d e) (omega (arith, i, length-set_number places d (suc (length order))));
        below = λ e i. ⊎_elim {C = e < length (slice_set places d (suc (length order)))} (λ j. let b = a.below e j in omega (arith, b, length-set_number places d (suc (length order)))) (λ j. let s = only e j in omega (arith, s, h, length-set_number places d (suc (length order)))) (IsIn-append_cases order (d ∷ []) i);
        distinct = subst NoRepeats grown (all_distinct nat_eq own order (d ∷ []) a.distinct);
      },
    )
  where
    only : (e : ℕ) → IsIn e (d ∷ []) → e ≡ d
    only _ (here) = refl
    only e (later _ j) = elim j [ ]

    go : (e : ℕ) → (d ≡ e) ⊎ (d ≡ e → ⊥) → e < length places → slice_index (slice_set places d (suc (length order))) e ≡ mark (order ++ d ∷ []) e
    go e (inl s) i = get_or-set_at places d e (suc (length order)) 0 (sym s) h ∙ subst (λ m. suc (length order) ≡ mark (order ++ d ∷ []) m) s (sym (mark_new order d (mark_none order d (sym (a.at d h) ∙ z))))
    go e (inr o) i = get_or-set_other places d e (suc (length order)) 0 (λ s. o (sym s)) ∙ a.at e i ∙ sym (mark_other order e d o)

-- where the place is past the end, the order is whole
pub order_stops : (root : ℕ) (ch : ℕ → List ℕ) (i : ℕ) → length (order_from root ch i) ≤ i → (m : ℕ) → i ≤ m → order_from root ch m ≡ order_from root ch i
order_stops root ch i e zero h = let z : i ≡ 0 = omega (arith, h) in rw z refl
order_stops root ch i e (suc m) h =
    ⊎_elim {C = order_from root ch (suc m) ≡ order_from root ch i}
    (λ l.
    let s = order_stops root ch i e m (omega (arith, l)) in
    let none : slice_get (order_from root ch m) m ≡ None = ap (λ xs. slice_get xs m) s ∙ slice_get_past (order_from root ch i) m (omega (arith, e, l)) in
    ap (with_children ch (order_from root ch m)) none ∙ s)
    (λ s. rw s refl)
    (less_or_whole i (suc m) h)

pub number_at : (children : List (ℕ × Bool)) (i : ℕ) → i < length children → slice_get (map (λ (c : ℕ × Bool). c.0) children) i ≡ Some (get_or {A = ℕ × Bool} children i (0, false)).0
number_at [] i h = absurd (omega (arith, h))
number_at (c ∷ children) zero h = refl
number_at (c ∷ children) (suc i) h = number_at children i (omega (arith, h))

pub one_child_more : (xs order new : List ℕ) (children : List (ℕ × Bool)) (i : ℕ) → i < length children → order ≡ with_all_new nat_eq xs (map (λ (c : ℕ × Bool). c.0) (take i children)) → new ≡ with_new nat_eq order (get_or {A = ℕ × Bool} children i (0, false)).0 → new ≡ with_all_new nat_eq xs (map (λ (c : ℕ × Bool). c.0) (take (i + 1) children))
one_child_more xs order new children i h k n =
    let d = (get_or {A = ℕ × Bool} children i (0, false)).0 in
    let more : map (λ (c : ℕ × Bool). c.0) (take (i + 1) children) ≡ map (λ (c : ℕ × Bool). c.0) (take i children) ++ d ∷ [] = taken children i h in
    n ∙ ap (λ ys. with_new nat_eq ys d) k ∙ sym (all_new_append nat_eq xs (map (λ (c : ℕ × Bool). c.0) (take i children)) (d ∷ [])) ∙ ap (with_all_new nat_eq xs) (sym more)
  where
    taken : (cs : List (ℕ × Bool)) (j : ℕ) → j < length cs → map (λ (c : ℕ × Bool). c.0) (take (j + 1) cs) ≡ map (λ (c : ℕ × Bool). c.0) (take j cs) ++ (get_or {A = ℕ × Bool} cs j (0, false)).0 ∷ []
    taken [] j h = absurd (omega (arith, h))
    taken (c ∷ cs) zero h = refl
    taken (c ∷ cs) (suc j) h = let e : suc j + 1 ≡ suc (j + 1) = omega arith in rw e (ap (λ (ys : List ℕ). c.0 ∷ ys) (taken cs j (omega (arith, h))))
