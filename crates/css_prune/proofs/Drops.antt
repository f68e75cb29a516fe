-- Dropping what has no rank: what stands stays, and in the end what is kept stands.
use Rattle.std.proofs.Common.{◌≡◌, ℕ, zero, suc, ◌<◌, ◌≤◌, Bool, true, false, nat_lt, List, length, refl, sym, subst, ◌∙◌, ⊎_elim, arith}
use Rattle.std.specs.Prelude.{◌&&◌, slice_index}
use Rattle.std.proofs.lemmas.Bool.Decides.{nat_tests}
use Rattle.std.proofs.lemmas.List.{get_or_past}
use Rattle.std.proofs.lemmas.Bool.{cases_lt, and_parts, and_from}
use Rattle.css_domain.specs.declared.record.Record.{Record}
use Rattle.css_domain.specs.Standing.{Stands, is_ranked}
use Rattle.css_domain.proofs.StandingLaws.{stands_by}
use Rattle.css_domain.specs.Records.{AreWithin}
use Rattle.css_prune.specs.Pruning.{kept, IsPruned}
use Rattle.css_prune.specs.Marks.{AreDropped, AreRanks, rank_after}
use Rattle.css_prune.specs.declared.pruned.Pruned.{Pruned}
use Rattle.css_prune.proofs.Marks.{rank_some, rank_none, pick_none}
use Rattle.css_prune.proofs.Ends.{ends_rank, ends_pick}
use Rattle.css_prune.proofs.Supports.{ranked_if_stands, stands_if_ranked}

-- those below the end are dropped where they have no rank
pub record AreDroppedBelow (end : ℕ) (ranks : List ℕ) (old new : List Bool) : Type 0 where
  pub below : (c : ℕ) → c < end → kept new c ≡ (kept old c && nat_lt 0 (slice_index ranks c))
  pub past : (c : ℕ) → end ≤ c → kept new c ≡ kept old c

pub stands_below : (classes : ℕ) (records : List Record) → AreWithin classes records → (c : ℕ) → Stands records c → c < classes
stands_below classes records within c s = let b = stands_by records c s in omega (arith, (within b.by_record b.recorded).own, b.own)

pub kept_below : (keep : List Bool) (c : ℕ) → kept keep c ≡ true → c < length keep
kept_below keep c h = ⊎_elim {C = c < length keep} (λ l. l) (λ p. absurd (let e = get_or_past keep c false p in cc)) (cases_lt c (length keep))

positive : (n : ℕ) → nat_lt 0 n ≡ true → 0 < n
positive n e = grind (arith, nat_tests)

from_positive : (n : ℕ) → 0 < n → nat_lt 0 n ≡ true
from_positive n e = grind (arith, nat_tests)

module _ (classes : ℕ) (records : List Record) (within : AreWithin classes records) (keep : List Bool) (ranks picks : List ℕ) (are : AreRanks (kept keep) records ranks picks) (all : (c : ℕ) → Stands records c → kept keep c ≡ true) where
  -- the rank that is told
  told : (c : ℕ) → slice_index ranks c ≡ rank_after (kept keep) records (length records) c
  told c = are.ranked c ∙ sym (ends_rank (kept keep) records c)

  pub still_all : (new : List Bool) → AreDropped ranks keep new → (c : ℕ) → Stands records c → kept new c ≡ true
  still_all new d c s =
      let r = ranked_if_stands (kept keep) records all c s in
      let some = rank_some (kept keep) records (length records) c r in
      d.left c ∙ and_from (kept keep c) (nat_lt 0 (slice_index ranks c)) (all c s) (from_positive (slice_index ranks c) (omega (arith, some, told c)))

  ends : length keep ≡ classes → length ranks ≡ classes → length picks ≡ classes → AreDropped ranks keep keep → IsPruned records classes (record { keep = keep; rank = ranks; pick = picks })
  ends k r p d =
      record {
        as_many = record { keep = k; rank = r; pick = p };
        standing = λ c. (stands_if_ranked (kept keep) records classes within (λ e h. let l = kept_below keep e h in omega (arith, l, k)) ranked c, all c);
        ranked = are.ranked;
        picked = are.picked;
      }
    where
      ranked : (c : ℕ) → kept keep c ≡ true → is_ranked (kept keep) records (length records) c ≡ true
      ranked c h = go (is_ranked (kept keep) records (length records) c) refl
        where
          go : (b : Bool) → is_ranked (kept keep) records (length records) c ≡ b → is_ranked (kept keep) records (length records) c ≡ true
          go true e = e
          go false e =
              let a = and_parts (kept keep c) (nat_lt 0 (slice_index ranks c)) (sym (d.left c) ∙ h) in
              let n = rank_none (kept keep) records (length records) c e in
              absurd (let l = positive (slice_index ranks c) a.1 in omega (arith, l, told c, n))

  -- what is answered, where nothing was dropped
  pub answered : (pruned : Pruned) (ks : List Bool) → pruned ≡ record { keep = ks; rank = ranks; pick = picks } → ks ≡ keep → length keep ≡ classes → length ranks ≡ classes → length picks ≡ classes → AreDropped ranks keep keep → IsPruned records classes pruned
  answered pruned ks e f k r p d = subst (λ (q : Pruned). IsPruned records classes q) (sym (e ∙ λ i. record { keep = f i; rank = ranks; pick = picks })) (ends k r p d)

-- what isn't kept has neither rank nor pick
pub none_elsewhere : (records : List Record) (classes : ℕ) (pruned : Pruned) → IsPruned records classes pruned → (c : ℕ) → kept pruned.keep c ≡ false → (slice_index pruned.rank c ≡ 0) × (slice_index pruned.pick c ≡ 0)
none_elsewhere records classes pruned is c h = (
  is.ranked c ∙ sym (ends_rank (kept pruned.keep) records c) ∙ rank_none (kept pruned.keep) records (length records) c none,
  is.picked c ∙ sym (ends_pick (kept pruned.keep) records c) ∙ pick_none (kept pruned.keep) records (length records) c none,
)
  where
    at : (n : ℕ) → is_ranked (kept pruned.keep) records n c ≡ false
    at zero = refl
    at (suc n) = rw h refl

    none : is_ranked (kept pruned.keep) records (length records) c ≡ false
    none = at (length records)
