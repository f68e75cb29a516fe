-- The marks after the last round are the ranks and picks.
use Rattle.std.proofs.Common.{◌≡◌, ℕ, zero, suc, ◌+◌, ◌-◌, ◌<◌, ◌≤◌, Bool, true, false, cond, nat_lt, List, [], ◌∷◌, length, refl, sym, ap, subst, ◌∙◌, ⊎_elim, arith}
use Rattle.std.specs.Prelude.{Some, None, Option, unwrap_or, find}
use Rattle.std.specs.List.{range_with_len}
use Rattle.std.specs.Option.{option_or}
use Rattle.std.proofs.lemmas.List.Folds.{find-append}
use Rattle.css_domain.specs.declared.record.Record.{Record}
use Rattle.css_domain.specs.Standing.{is_ranked, rank_of, pick_of}
use Rattle.css_prune.specs.Marks.{giver, rank_after, pick_after}
use Rattle.css_prune.proofs.Rounds.{ranked_next, IsStable, stable_from, ranked_by_end}
use Rattle.css_prune.proofs.Marks.{giver_within, old_mark, rank_none, pick_none, rank_some, none_before, whole_mark}
use Rattle.lists.proofs.Ranges.{range_more}
use Rattle.lists.proofs.Numbers.{less_or_whole}

first_kept : (o p : Option ℕ) → 0 < unwrap_or o 0 → unwrap_or (option_or o p) 0 ≡ unwrap_or o 0
first_kept None p h = absurd (omega (arith, h))
first_kept (Some x) p h = refl

unwrapped : (b : Bool) (x : ℕ) → unwrap_or (cond b (Some x) None) 0 ≡ cond b x 0
unwrapped true x = refl
unwrapped false x = refl

module _ (K : ℕ → Bool) (records : List Record) where
  -- the search for the first round, as far as n and one further
  further : (n c : ℕ) → find (λ m. is_ranked K records m c) (range_with_len 1 (suc n)) ≡ option_or (find (λ m. is_ranked K records m c) (range_with_len 1 n)) (cond (is_ranked K records (suc n) c) (Some (suc n)) None)
  further n c =
      let e : 1 + n ≡ suc n = omega arith in
      ap (λ xs. find (λ m. is_ranked K records m c) xs) (range_more 1 n)
      ∙ find-append (λ m. is_ranked K records m c) (range_with_len 1 n) ((1 + n) ∷ [])
      ∙ ap (λ k. option_or (find (λ m. is_ranked K records m c) (range_with_len 1 n)) (cond (is_ranked K records k c) (Some k) None)) e

  none_found : (n c : ℕ) → is_ranked K records n c ≡ false → find (λ m. is_ranked K records m c) (range_with_len 1 n) ≡ None
  none_found zero c h = refl
  none_found (suc n) c h = further n c ∙ rw (none_found n c (none_before K records n c h), h) refl

  -- after n rounds the rank is the first round up to n that gives one
  pub found : (n c : ℕ) → rank_after K records n c ≡ unwrap_or (find (λ m. is_ranked K records m c) (range_with_len 1 n)) 0
  found zero c = refl
  found (suc n) c = go (found n c) (is_ranked K records n c) refl (is_ranked K records (suc n) c) refl
    where
      go : rank_after K records n c ≡ unwrap_or (find (λ m. is_ranked K records m c) (range_with_len 1 n)) 0 → (a : Bool) → is_ranked K records n c ≡ a → (b : Bool) → is_ranked K records (suc n) c ≡ b → rank_after K records (suc n) c ≡ unwrap_or (find (λ m. is_ranked K records m c) (range_with_len 1 (suc n))) 0
      go before true e b f =
          let some = rank_some K records n c e in
          old_mark K records n (length records) c (rank_after K records n c) (suc n) e
          ∙ before
          ∙ sym (first_kept (find (λ m. is_ranked K records m c) (range_with_len 1 n)) (cond (is_ranked K records (suc n) c) (Some (suc n)) None) (omega (arith, some, before)))
          ∙ ap (λ o. unwrap_or o 0) (sym (further n c))
      go before false e b f =
          let here : find (λ m. is_ranked K records m c) (range_with_len 1 (suc n)) ≡ cond (is_ranked K records (suc n) c) (Some (suc n)) None = further n c ∙ ap (λ o. option_or o (cond (is_ranked K records (suc n) c) (Some (suc n)) None)) (none_found n c e) in
          let end : find (λ m. is_ranked K records m c) (range_with_len 1 (suc n)) ≡ cond b (Some (suc n)) None = here ∙ ap (λ t. cond t (Some (suc n)) None) f in
          let this : rank_after K records (suc n) c ≡ cond b (suc n) 0 = whole_mark K records n c (rank_after K records n c) (suc n) b f ∙ ap (λ t. cond t (rank_after K records n c) (cond b (suc n) 0)) e in
          this ∙ sym (unwrapped b (suc n)) ∙ ap (λ o. unwrap_or o 0) (sym end)

  -- the pick is the first record that gives the rank
  pub chosen : (n c : ℕ) → is_ranked K records n c ≡ true → pick_after K records n c ≡ cond (nat_lt (giver K records (rank_after K records n c - 1) c) (length records)) (giver K records (rank_after K records n c - 1) c) 0
  chosen zero c h = absurd cc
  chosen (suc n) c h = go (chosen n c) (is_ranked K records n c) refl
    where
      by : ℕ → ℕ
      by m = cond (nat_lt (giver K records m c) (length records)) (giver K records m c) 0

      go : (is_ranked K records n c ≡ true → pick_after K records n c ≡ by (rank_after K records n c - 1)) → (a : Bool) → is_ranked K records n c ≡ a → pick_after K records (suc n) c ≡ by (rank_after K records (suc n) c - 1)
      go before true e =
          old_mark K records n (length records) c (pick_after K records n c) (giver K records n c) e
          ∙ before e
          ∙ ap (λ m. by (m - 1)) (sym (old_mark K records n (length records) c (rank_after K records n c) (suc n) e))
      go before false e =
          let here : rank_after K records (suc n) c ≡ suc n = whole_mark K records n c (rank_after K records n c) (suc n) true h ∙ rw e refl in
          let less : n ≡ rank_after K records (suc n) c - 1 = omega (arith, here) in
          let this : pick_after K records (suc n) c ≡ by n = rw e refl in
          this ∙ ap by less

  -- what a class that has a rank after n rounds has, it keeps
  pub rank_stays : (n m c : ℕ) → n ≤ m → is_ranked K records n c ≡ true → (is_ranked K records m c ≡ true) × (rank_after K records m c ≡ rank_after K records n c) × (pick_after K records m c ≡ pick_after K records n c)
  rank_stays n zero c l h = let e : 0 ≡ n = omega (arith, l) in subst (λ m. (is_ranked K records m c ≡ true) × (rank_after K records m c ≡ rank_after K records n c) × (pick_after K records m c ≡ pick_after K records n c)) (sym e) (h, refl, refl)
  rank_stays n (suc m) c l h =
      ⊎_elim {C = (is_ranked K records (suc m) c ≡ true) × (rank_after K records (suc m) c ≡ rank_after K records n c) × (pick_after K records (suc m) c ≡ pick_after K records n c)}
      (λ less.
      let s = rank_stays n m c (omega (arith, less)) h in
      (ranked_next K records m c s.0, old_mark K records m (length records) c (rank_after K records m c) (suc m) s.0 ∙ s.1, old_mark K records m (length records) c (pick_after K records m c) (giver K records m c) s.0 ∙ s.2))
      (λ e. subst (λ m. (is_ranked K records m c ≡ true) × (rank_after K records m c ≡ rank_after K records n c) × (pick_after K records m c ≡ pick_after K records n c)) e (h, refl, refl))
      (less_or_whole n (suc m) l)

  -- and where no round adds any, nothing changes
  pub stays : (n m c : ℕ) → n ≤ m → IsStable K records n → (rank_after K records m c ≡ rank_after K records n c) × (pick_after K records m c ≡ pick_after K records n c)
  stays n m c l s = go (is_ranked K records n c) refl
    where
      go : (b : Bool) → is_ranked K records n c ≡ b → (rank_after K records m c ≡ rank_after K records n c) × (pick_after K records m c ≡ pick_after K records n c)
      go true e = let k = rank_stays n m c l e in (k.1, k.2)
      go false e =
          let f : is_ranked K records m c ≡ false = stable_from K records n m l s c ∙ e in
          (rank_none K records m c f ∙ sym (rank_none K records n c e), pick_none K records m c f ∙ sym (pick_none K records n c e))

  pub ends_rank : (c : ℕ) → rank_after K records (length records) c ≡ rank_of K records c
  ends_rank c = found (length records) c

  pub picks_by_giver : (c : ℕ) → pick_of K records c ≡ cond (nat_lt (giver K records (rank_of K records c - 1) c) (length records)) (giver K records (rank_of K records c - 1) c) 0
  unfolding giver
  picks_by_giver c = unwrapped (nat_lt (giver K records (rank_of K records c - 1) c) (length records)) (giver K records (rank_of K records c - 1) c)

  pub ends_pick : (c : ℕ) → pick_after K records (length records) c ≡ pick_of K records c
  ends_pick c = go (is_ranked K records (length records) c) refl
    where
      by : ℕ → ℕ
      by m = cond (nat_lt (giver K records m c) (length records)) (giver K records m c) 0

      not_first : is_ranked K records (length records) c ≡ false → is_ranked K records 1 c ≡ false
      not_first e = at (is_ranked K records 1 c) refl
        where
          at : (b : Bool) → is_ranked K records 1 c ≡ b → is_ranked K records 1 c ≡ false
          at true f = absurd (let g = ranked_by_end K records 1 c f in cc)
          at false f = f

      go : (b : Bool) → is_ranked K records (length records) c ≡ b → pick_after K records (length records) c ≡ pick_of K records c
      go true e = chosen (length records) c e ∙ ap (λ m. by (m - 1)) (ends_rank c) ∙ sym (picks_by_giver c)
      go false e =
          let zero_rank : rank_of K records c - 1 ≡ 0 = omega (arith, ends_rank c, rank_none K records (length records) c e) in
          let none : by 0 ≡ 0 = rw (giver_within K records 0 c ∙ not_first e) refl in
          pick_none K records (length records) c e ∙ sym none ∙ sym (ap by zero_rank) ∙ sym (picks_by_giver c)

  -- where the marks of a round are those before it, it adds none
  pub stable_if_same : (n : ℕ) → ((c : ℕ) → rank_after K records (suc n) c ≡ rank_after K records n c) → IsStable K records n
  stable_if_same n same c = go (is_ranked K records n c) refl (is_ranked K records (suc n) c) refl
    where
      go : (a : Bool) → is_ranked K records n c ≡ a → (b : Bool) → is_ranked K records (suc n) c ≡ b → is_ranked K records (suc n) c ≡ is_ranked K records n c
      go true e b f = ranked_next K records n c e ∙ sym e
      go false e true f = absurd (let s = rank_some K records (suc n) c f in omega (arith, s, same c, rank_none K records n c e))
      go false e false f = f ∙ sym e

  -- the round that gave c its rank
  pub ranked_at_rank : (n c : ℕ) → is_ranked K records n c ≡ true → is_ranked K records (suc (rank_after K records n c - 1)) c ≡ true
  ranked_at_rank zero c h = absurd cc
  ranked_at_rank (suc n) c h = go (ranked_at_rank n c) (is_ranked K records n c) refl
    where
      go : (is_ranked K records n c ≡ true → is_ranked K records (suc (rank_after K records n c - 1)) c ≡ true) → (a : Bool) → is_ranked K records n c ≡ a → is_ranked K records (suc (rank_after K records (suc n) c - 1)) c ≡ true
      go before true e = subst (λ m. is_ranked K records (suc (m - 1)) c ≡ true) (sym (old_mark K records n (length records) c (rank_after K records n c) (suc n) e)) (before e)
      go before false e =
          let here : rank_after K records (suc n) c ≡ suc n = whole_mark K records n c (rank_after K records n c) (suc n) true h ∙ rw e refl in
          let less : suc n ≡ suc (rank_after K records (suc n) c - 1) = omega (arith, here) in
          subst (λ m. is_ranked K records m c ≡ true) less h
