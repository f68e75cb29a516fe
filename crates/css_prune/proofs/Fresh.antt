-- What a round newly gives a rank waits for a class of the round before.
use Rattle.std.proofs.Common.{◌≡◌, ℕ, zero, suc, Bool, true, false, List, length, refl, ◌∙◌, arith}
use Rattle.std.specs.Prelude.{◌&&◌, ◌||◌, ◌==◌, ◌≢◌, not, slice_get, slice_index, Some}
use Rattle.std.specs.List.{list_all, list_any, range_with_len}
use Rattle.std.proofs.lemmas.Bool.{and_parts, and_from}
use Rattle.css_domain.specs.declared.record.Record.{Record}
use Rattle.css_domain.specs.Records.{numbers, has_same_length}
use Rattle.css_domain.specs.Standing.{gives, is_ranked, each_same_length}
use Rattle.css_prune.specs.declared.waiting.Slot.{Slot}
use Rattle.css_prune.specs.Marks.{gives_next, rank_after}
use Rattle.css_prune.specs.Waiting.{AllWait, WaitsForOne}
use Rattle.css_prune.proofs.Marks.{whole_mark}
use Rattle.lists.specs.Members.{IsIn}
use Rattle.lists.proofs.Tests.{each_passes, some_fails, some_passes}
use Rattle.lists.proofs.Ranges.{IsIn-range_with_len}
use Rattle.lists.proofs.Places.{IsIn-slice_get}
use Rattle.std.proofs.lemmas.Option.{slice_get_within}

module _ (K : ℕ → Bool) (records : List Record) (m c p : ℕ) (r : Record) (at : slice_get records p ≡ Some r) (none : is_ranked K records (suc m) c ≡ false) (gift : gives_next K records (suc m) c r ≡ true) where
  parts : (K c ≡ true) × (gives K records (λ d. is_ranked K records (suc m) d) c r ≡ true)
  parts = and_parts (K c) (gives K records (λ d. is_ranked K records (suc m) d) c r) gift

  own : ((r.parent == c) ≡ true) × ((list_all K (numbers r) && each_same_length r (λ d. is_ranked K records (suc m) d)) ≡ true)
  own = and_parts (r.parent == c) (list_all K (numbers r) && each_same_length r (λ d. is_ranked K records (suc m) d)) parts.1

  lower : (list_all K (numbers r) ≡ true) × (each_same_length r (λ d. is_ranked K records (suc m) d) ≡ true)
  lower = and_parts (list_all K (numbers r)) (each_same_length r (λ d. is_ranked K records (suc m) d)) own.1

  -- a round before, some child's rank was missing
  missed : each_same_length r (λ d. is_ranked K records m d) ≡ false
  missed = go (each_same_length r (λ d. is_ranked K records m d)) refl
    where
      go : (b : Bool) → each_same_length r (λ d. is_ranked K records m d) ≡ b → each_same_length r (λ d. is_ranked K records m d) ≡ false
      go true e =
          let g : gives K records (λ d. is_ranked K records m d) c r ≡ true = and_from (r.parent == c) (list_all K (numbers r) && each_same_length r (λ d. is_ranked K records m d)) own.0 (and_from (list_all K (numbers r)) (each_same_length r (λ d. is_ranked K records m d)) lower.0 e) in
          let y : is_ranked K records (suc m) c ≡ true = and_from (K c) (list_any (λ s. gives K records (λ d. is_ranked K records m d) c s) records) parts.0 (some_passes (λ s. gives K records (λ d. is_ranked K records m d) c s) (IsIn-slice_get records p r at) g) in
          absurd cc
      go false e = e

  or_false : (a b : Bool) → (not a || b) ≡ false → (a ≡ true) × (b ≡ false)
  or_false true b e = (refl, e)
  or_false false b e = absurd cc

  or_true : (a b : Bool) → a ≡ true → (not a || b) ≡ true → b ≡ true
  or_true true b e f = f
  or_true false b e f = absurd cc

  pub waits_for_fresh : (slots : List Slot) (fresh ranks : List ℕ) → AllWait records slots (length records) → ((d : ℕ) → slice_index ranks d ≡ suc m → IsIn d fresh) → ((d : ℕ) → slice_index ranks d ≡ rank_after K records (suc m) d) → WaitsForOne slots fresh p
  waits_for_fresh slots fresh ranks all listed ranked =
      let x = some_fails (λ slot. not (has_same_length r slot) || is_ranked K records m (slice_index (numbers r) slot)) (range_with_len 0 (length r.children)) missed in
      let slot = x.0 in
      let d = slice_index (numbers r) slot in
      let f = or_false (has_same_length r slot) (is_ranked K records m d) x.2 in
      let g = or_true (has_same_length r slot) (is_ranked K records (suc m) d) f.0 (each_passes (λ s. not (has_same_length r s) || is_ranked K records (suc m) (slice_index (numbers r) s)) lower.1 x.1) in
      let l = IsIn-range_with_len 0 (length r.children) slot x.1 in
      let k : rank_after K records (suc m) d ≡ suc m = whole_mark K records m d (rank_after K records m d) (suc m) true g ∙ rw f.1 refl in
      record {
        class = d;
        there = listed d (ranked d ∙ k);
        waits = all p r (slice_get_within records p r at) at slot (omega (arith, l.1)) f.0;
      }

-- the same of a later round by its number
pub later : (K : ℕ → Bool) (records : List Record) (n c p : ℕ) (r : Record) → slice_get records p ≡ Some r → is_ranked K records n c ≡ false → gives_next K records n c r ≡ true → (slots : List Slot) (fresh ranks : List ℕ) → (n ≢ 0) → AllWait records slots (length records) → ((d : ℕ) → slice_index ranks d ≡ n → IsIn d fresh) → ((d : ℕ) → slice_index ranks d ≡ rank_after K records n d) → WaitsForOne slots fresh p
later K records zero c p r at none gift slots fresh ranks some all listed ranked = absurd (some refl)
later K records (suc m) c p r at none gift slots fresh ranks some all listed ranked = waits_for_fresh K records m c p r at none gift slots fresh ranks all listed ranked
