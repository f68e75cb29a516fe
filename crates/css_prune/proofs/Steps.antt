-- The ends of the rounds.
use Rattle.std.proofs.Common.{◌≡◌, ℕ, suc, ◌≤◌, Bool, true, false, List, length, refl, sym, ap, ◌∙◌, inl, inr, arith}
use Rattle.std.specs.Prelude.{◌⊎◌, ◌==◌, ◌≢◌, slice_index}
use Rattle.std.proofs.lemmas.Bool.{eqb-true, eq-eqb}
use Rattle.css_domain.specs.declared.record.Record.{Record}
use Rattle.css_prune.specs.Marks.{AreAfter, AreRanks}
use Rattle.css_prune.proofs.Ends.{stable_if_same, stays, ends_rank, ends_pick}

pub same_or_other : (a b : ℕ) → (a ≡ b) ⊎ (a ≢ b)
same_or_other a b = go (a == b) refl
  where
    go : (t : Bool) → (a == b) ≡ t → (a ≡ b) ⊎ (a ≢ b)
    go true e = inl (eqb-true a b e)
    go false e = inr (λ s. absurd (let f = eq-eqb a b s in cc))

module _ (K : ℕ → Bool) (records : List Record) where
  -- a round that changed no rank is the last
  pub early_end : (n : ℕ) (ranks picks new_ranks new_picks : List ℕ) → suc n ≤ length records → AreAfter K records n ranks picks → AreAfter K records (suc n) new_ranks new_picks → new_ranks ≡ ranks → AreRanks K records new_ranks new_picks
  early_end n ranks picks new_ranks new_picks early old new same =
      let stable = stable_if_same K records n (λ c. sym (new.ranked c) ∙ ap (λ (xs : List ℕ). slice_index xs c) same ∙ old.ranked c) in
      record {
        ranked = λ c.
            new.ranked c ∙ (stays K records n (suc n) c (omega arith) stable).0 ∙ sym (stays K records n (length records) c (omega (arith, early)) stable).0 ∙ ends_rank K records c;
        picked = λ c.
            new.picked c ∙ (stays K records n (suc n) c (omega arith) stable).1 ∙ sym (stays K records n (length records) c (omega (arith, early)) stable).1 ∙ ends_pick K records c;
      }

  pub whole_end : (ranks picks : List ℕ) → AreAfter K records (length records) ranks picks → AreRanks K records ranks picks
  whole_end ranks picks a = record { ranked = λ c. a.ranked c ∙ ends_rank K records c; picked = λ c. a.picked c ∙ ends_pick K records c }
