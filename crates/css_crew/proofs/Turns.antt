-- Claims in turn, and one more filing.
use Rattle.std.proofs.Common.{◌≡◌, ℕ, zero, suc, ◌+◌, ◌<◌, ◌≤◌, Bool, true, false, cond, List, [], ◌∷◌, ◌++◌, length, refl, sym, ap, subst, ◌∙◌, ⊎_elim, arith}
use Rattle.std.specs.Prelude.{◌&&◌, ◌==◌, not, filter, if◌then◌else◌}
use Rattle.std.specs.List.{range_with_len}
use Rattle.std.proofs.lemmas.Bool.{eqb-true, eq-eqb, cases_lt, and_parts, and_from}
use Rattle.std.proofs.lemmas.List.{length-map}
use Rattle.lists.specs.Members.IsIn.{here}
use Rattle.lists.proofs.Numbers.{less_or_whole}
use Rattle.lists.proofs.Tests.{all_pass}
use Rattle.lists.specs.Members.{IsIn}
use Rattle.lists.proofs.Ranges.{IsIn-range_with_len, in_range_with_len}
use Rattle.css_domain.specs.Meanings.{Meaning}
use Rattle.css_domain.specs.Ledgers.{Books, classes, done, is_among, fresh, work, Claimed, claimed, is_all_done, with_filing, with_work, without}
use Rattle.css_domain.specs.Ledgers.Claimed.{Finished, Spent, Work, Idle}
use Rattle.std.specs.Ordering.{nat_cmp}
use Rattle.sequences.specs.Ascending.{insert_new}
use Rattle.css_domain.proofs.Finding.{among_from_in, in_from_among}

-- ---- the first number that passes
pub first_work : (q : ℕ → Bool) (a m n : ℕ) → work (filter q (range_with_len a m)) ≡ Work n → (a ≤ n) × (n < a + m) × (q n ≡ true) × ((i : ℕ) → a ≤ i → i < n → q i ≡ false)
first_work q a zero n h = absurd cc
first_work q a (suc m) n h = go (q a) refl (first_work q (a + 1) m n) h
  where
    go : (b : Bool) → q a ≡ b → (work (filter q (range_with_len (a + 1) m)) ≡ Work n → (a + 1 ≤ n) × (n < a + 1 + m) × (q n ≡ true) × ((i : ℕ) → a + 1 ≤ i → i < n → q i ≡ false)) → work (cond b (a ∷ filter q (range_with_len (a + 1) m)) (filter q (range_with_len (a + 1) m))) ≡ Work n → (a ≤ n) × (n < a + suc m) × (q n ≡ true) × ((i : ℕ) → a ≤ i → i < n → q i ≡ false)
    go true e f g = let s : a ≡ n = cc in (omega (arith, s), omega (arith, s), subst (λ k. q k ≡ true) s e, λ i x y. absurd (omega (arith, s, x, y)))
    go false e f g = let r = f g in (omega (arith, r.0), omega (arith, r.1), r.2, λ i x y. ⊎_elim {C = q i ≡ false} (λ less. r.3 i (omega (arith, less)) y) (λ s. subst (λ k. q k ≡ false) s e) (less_or_whole a i x))

pub none_work : (q : ℕ → Bool) (a m : ℕ) → work (filter q (range_with_len a m)) ≡ Idle → (i : ℕ) → a ≤ i → i < a + m → q i ≡ false
none_work q a zero h i x y = absurd (omega (arith, x, y))
none_work q a (suc m) h i x y = go (q a) refl (none_work q (a + 1) m) h
  where
    go : (b : Bool) → q a ≡ b → (work (filter q (range_with_len (a + 1) m)) ≡ Idle → (i : ℕ) → a + 1 ≤ i → i < a + 1 + m → q i ≡ false) → work (cond b (a ∷ filter q (range_with_len (a + 1) m)) (filter q (range_with_len (a + 1) m))) ≡ Idle → q i ≡ false
    go true e f g = absurd cc
    go false e f g = ⊎_elim {C = q i ≡ false} (λ less. f g i (omega (arith, less)) (omega (arith, y))) (λ s. subst (λ k. q k ≡ false) s e) (less_or_whole a i x)

pub work_only : (ns : List ℕ) → (work ns ≡ Finished → ⊥) × (work ns ≡ Spent → ⊥)
work_only [] = (λ e. cc, λ e. cc)
work_only (n ∷ ns) = (λ e. cc, λ e. cc)

by_work : (a b : Bool) (w : Claimed) (n : ℕ) → Work n ≡ (if a then Finished else (if b then Spent else w)) → (a ≡ false) × (b ≡ false) × (w ≡ Work n)
by_work true b w n e = absurd cc
by_work false true w n e = absurd cc
by_work false false w n e = (refl, refl, sym e)

by_idle : (a b : Bool) (w : Claimed) → Idle ≡ (if a then Finished else (if b then Spent else w)) → (a ≡ false) × (w ≡ Idle)
by_idle true b w e = absurd cc
by_idle false true w e = absurd cc
by_idle false false w e = (refl, sym e)

by_finished : (a b : Bool) (w : Claimed) → (w ≡ Finished → ⊥) → Finished ≡ (if a then Finished else (if b then Spent else w)) → a ≡ true
by_finished true b w never e = refl
by_finished false true w never e = absurd cc
by_finished false false w never e = absurd (never (sym e))

by_spent : (a b : Bool) (w : Claimed) → (w ≡ Spent → ⊥) → Spent ≡ (if a then Finished else (if b then Spent else w)) → (a ≡ false) × (b ≡ true)
by_spent true b w never e = absurd cc
by_spent false true w never e = (refl, refl)
by_spent false false w never e = absurd (never (sym e))

negated : (b : Bool) → not b ≡ true → b ≡ false
negated false e = refl
negated true e = absurd cc

module _ {C R : Type 0} (D : Meaning C R) (l : Books C R) (out : l.out ≡ []) where
  not_out : (n : ℕ) → not (is_among n l.out) ≡ true
  not_out n = rw out refl

  as_many : length (done l) ≡ length l.journal
  as_many = length-map l.journal (λ (p : ℕ × ℕ). p.0)

  -- what is claimed is no done class, and there is a reason for none
  pub claimed_fresh : (n : ℕ) → Work n ≡ claimed D l → (n < length (classes D l)) × (is_among n (done l) ≡ false) × (is_all_done D l ≡ true → ⊥) × (length (done l) ≡ l.budget → ⊥)
  claimed_fresh n e =
      let w = by_work (is_all_done D l) (length l.out + length l.journal == l.budget) (work (fresh D l)) n e in
      let f = first_work (λ i. not (is_among i (done l)) && not (is_among i l.out)) 0 (length (classes D l)) n w.2 in
      let passes = and_parts (not (is_among n (done l))) (not (is_among n l.out)) f.2 in
      (omega (arith, f.1), negated (is_among n (done l)) passes.0, λ t. absurd (let a = w.0 in cc), λ s. absurd (let b = w.1 in let k = eq-eqb (length l.out + length l.journal) l.budget (omega (arith, s, as_many, ap length out)) in cc))

  pub claimed_finished : Finished ≡ claimed D l → is_all_done D l ≡ true
  claimed_finished e = by_finished (is_all_done D l) (length l.out + length l.journal == l.budget) (work (fresh D l)) (work_only (fresh D l)).0 e

  pub claimed_spent : Spent ≡ claimed D l → (is_all_done D l ≡ true → ⊥) × (length (done l) ≡ l.budget)
  claimed_spent e =
      let b = by_spent (is_all_done D l) (length l.out + length l.journal == l.budget) (work (fresh D l)) (work_only (fresh D l)).1 e in
      let s = eqb-true (length l.out + length l.journal) l.budget b.1 in
      (λ t. absurd (let a = b.0 in cc), omega (arith, s, as_many, ap length out))

  pub claimed_idle : Idle ≡ claimed D l → is_all_done D l ≡ true
  claimed_idle e =
      let w = by_idle (is_all_done D l) (length l.out + length l.journal == l.budget) (work (fresh D l)) e in
      let f = none_work (λ i. not (is_among i (done l)) && not (is_among i l.out)) 0 (length (classes D l)) w.1 in
      all_pass (λ n. is_among n (done l)) (range_with_len 0 (length (classes D l))) (λ n i. let r = IsIn-range_with_len 0 (length (classes D l)) n i in known (is_among n (done l)) (not (is_among n l.out)) (not_out n) (f n (omega arith) (omega (arith, r.1))))
    where
      known : (b c : Bool) → c ≡ true → (not b && c) ≡ false → b ≡ true
      known true c e f = refl
      known false c e f = absurd cc

  -- what is claimed and filed is filed
  pub claimed_filed : (n : ℕ) (rules : List R) → with_filing (with_work l (Work n)) n rules ≡ with_filing l n rules
  claimed_filed n rules =
      let o : without n (insert_new nat_cmp n l.out) ≡ without n l.out = ap (λ xs. without n (insert_new nat_cmp n xs)) out ∙ rw (eq-eqb n n refl) refl ∙ sym (ap (without n) out) in
      λ i. record { root = l.root; budget = l.budget; rulebook = l.rulebook; rules = l.rules ++ rules; journal = l.journal ++ (n, length rules) ∷ []; out = o i }

  pub claimed_out : (n : ℕ) → IsIn n (with_work l (Work n)).out
  claimed_out n = subst (λ xs. IsIn n xs) (sym (ap (insert_new nat_cmp n) out)) here

  module _ (turn : done l ≡ range_with_len 0 (length l.journal)) where
    among_range : (n : ℕ) → (is_among n (done l) ≡ true → n < length l.journal) × (n < length l.journal → is_among n (done l) ≡ true)
    among_range n = (
      λ e. let i = IsIn-range_with_len 0 (length l.journal) n (subst (λ xs. IsIn n xs) turn (in_from_among n (done l) e)) in omega (arith, i.1),
      λ h. among_from_in n (done l) (subst (λ xs. IsIn n xs) (sym turn) (in_range_with_len 0 (length l.journal) n (omega arith) (omega (arith, h)))),
    )

    -- what is claimed is the next class in turn
    pub claimed_next : (n : ℕ) → Work n ≡ claimed D l → n ≡ length l.journal
    claimed_next n e =
        let w = by_work (is_all_done D l) (length l.out + length l.journal == l.budget) (work (fresh D l)) n e in
        let f = first_work (λ i. not (is_among i (done l)) && not (is_among i l.out)) 0 (length (classes D l)) n w.2 in
        let passes = and_parts (not (is_among n (done l))) (not (is_among n l.out)) f.2 in
        let past = not_below n passes.0 in
        let first = not_above n f.3 in
        omega (arith, past, first)
      where
        not_below : (n : ℕ) → not (is_among n (done l)) ≡ true → length l.journal ≤ n
        not_below n e = ⊎_elim {C = length l.journal ≤ n} (λ less. absurd (let t = (among_range n).1 less in let g : not (is_among n (done l)) ≡ false = rw t refl in cc)) (λ p. p) (cases_lt n (length l.journal))

        not_above : (n : ℕ) → ((i : ℕ) → 0 ≤ i → i < n → (not (is_among i (done l)) && not (is_among i l.out)) ≡ false) → n ≤ length l.journal
        not_above n f =
            ⊎_elim {C = n ≤ length l.journal}
            (λ less.
            absurd (let g = f (length l.journal) (omega arith) less in
            let h : not (is_among (length l.journal) (done l)) ≡ true = free (is_among (length l.journal) (done l)) refl in
            let b = and_from (not (is_among (length l.journal) (done l))) (not (is_among (length l.journal) l.out)) h (not_out (length l.journal)) in cc))
            (λ p. p)
            (cases_lt (length l.journal) n)
          where
            free : (b : Bool) → is_among (length l.journal) (done l) ≡ b → not b ≡ true
            free false e = refl
            free true e = absurd (let x = (among_range (length l.journal)).0 e in omega (arith, x))
