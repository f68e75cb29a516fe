-- Marks record by record, and that they end as ranks and picks.
use Rattle.std.proofs.Common.{◌≡◌, ℕ, zero, suc, ◌<◌, ◌≤◌, Bool, true, false, cond, nat_lt, List, [], ◌∷◌, length, refl, ◌∙◌, arith}
use Rattle.std.specs.Prelude.{◌&&◌, slice_get, Some}
use Rattle.std.specs.List.{list_any, position_or_len}
use Rattle.std.proofs.lemmas.Bool.Decides.{nat_tests}
use Rattle.css_domain.specs.declared.record.Record.{Record}
use Rattle.css_domain.specs.Standing.{gives, is_ranked}
use Rattle.css_prune.specs.Marks.{gives_next, giver, mark, rank_after, pick_after}
use Rattle.css_prune.proofs.Passing.{first_within, first_passes, first_not_past}
use Rattle.css_prune.proofs.Rounds.{ranked_next}

module _ (K : ℕ → Bool) (records : List Record) where
  -- a test beside all elements
  beside : (k : Bool) (p : Record → Bool) → nat_lt (position_or_len (λ r. k && p r) records) (length records) ≡ (k && list_any p records)
  beside true p = first_within p records
  beside false p = first_within (λ r. false) records ∙ none records
    where
      none : (rs : List Record) → list_any (λ r. false) rs ≡ false
      none [] = refl
      none (r ∷ rs) = none rs

  pub giver_within : (n c : ℕ) → nat_lt (giver K records n c) (length records) ≡ is_ranked K records (suc n) c
  unfolding giver
  giver_within n c = beside (K c) (λ r. gives K records (λ d. is_ranked K records n d) c r)

  pub old_mark : (n seen c old new : ℕ) → is_ranked K records n c ≡ true → mark K records n seen c old new ≡ old
  old_mark n seen c old new h = rw h refl

  pub new_mark : (n seen c old new : ℕ) → is_ranked K records n c ≡ false → giver K records n c < seen → mark K records n seen c old new ≡ new
  new_mark n seen c old new h less = let e : nat_lt (giver K records n c) seen ≡ true = grind (arith, nat_tests) in rw (h, e) refl

  pub no_mark : (n seen c old new : ℕ) → is_ranked K records n c ≡ false → seen ≤ giver K records n c → mark K records n seen c old new ≡ 0
  no_mark n seen c old new h past = let e : nat_lt (giver K records n c) seen ≡ false = grind (arith, nat_tests) in rw (h, e) refl

  -- a round's marks at its end
  pub whole_mark : (n c old new : ℕ) (b : Bool) → is_ranked K records (suc n) c ≡ b → mark K records n (length records) c old new ≡ cond (is_ranked K records n c) old (cond b new 0)
  whole_mark n c old new b e = rw (giver_within n c ∙ e) refl

  pub none_before : (n c : ℕ) → is_ranked K records (suc n) c ≡ false → is_ranked K records n c ≡ false
  none_before n c h = go (is_ranked K records n c) refl
    where
      go : (b : Bool) → is_ranked K records n c ≡ b → is_ranked K records n c ≡ false
      go true e = absurd (let f = ranked_next K records n c e in cc)
      go false e = e

  pub rank_none : (n c : ℕ) → is_ranked K records n c ≡ false → rank_after K records n c ≡ 0
  rank_none zero c h = refl
  rank_none (suc n) c h = whole_mark n c (rank_after K records n c) (suc n) false h ∙ rw (none_before n c h) refl

  pub pick_none : (n c : ℕ) → is_ranked K records n c ≡ false → pick_after K records n c ≡ 0
  pick_none zero c h = refl
  pick_none (suc n) c h = whole_mark n c (pick_after K records n c) (giver K records n c) false h ∙ rw (none_before n c h) refl

  pub rank_some : (n c : ℕ) → is_ranked K records n c ≡ true → (0 < rank_after K records n c) × (rank_after K records n c ≤ n)
  rank_some zero c h = absurd cc
  rank_some (suc n) c h = go (rank_some n c) (is_ranked K records n c) refl
    where
      go : (is_ranked K records n c ≡ true → (0 < rank_after K records n c) × (rank_after K records n c ≤ n)) → (b : Bool) → is_ranked K records n c ≡ b → (0 < rank_after K records (suc n) c) × (rank_after K records (suc n) c ≤ suc n)
      go before true e = let s = before e in let m = old_mark n (length records) c (rank_after K records n c) (suc n) e in (omega (arith, s, m), omega (arith, s, m))
      go before false e = let m : rank_after K records (suc n) c ≡ suc n = whole_mark n c (rank_after K records n c) (suc n) true h ∙ rw e refl in (omega (arith, m), omega (arith, m))

  -- what the first record to give c a rank is
  pub giver_gives : (n i c : ℕ) (r : Record) → slice_get records i ≡ Some r → giver K records n c ≡ i → gives_next K records n c r ≡ true
  unfolding giver
  giver_gives n i c r at e = first_passes (gives_next K records n c) records i r at e

  pub giver_not_past : (n i c : ℕ) (r : Record) → slice_get records i ≡ Some r → gives_next K records n c r ≡ true → giver K records n c ≤ i
  unfolding giver
  giver_not_past n i c r at e = first_not_past (gives_next K records n c) records i r at e
