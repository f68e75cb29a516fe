-- Ranks and picks in the midst of a round, in whatever order the records are tried.
use Rattle.std.specs.Prelude.{◌≡◌, ◌⊎◌, ◌<◌, ◌≤◌, ℕ, suc, Bool, true, false, List, [], slice_get, slice_index, Some}
use Rattle.css_domain.specs.declared.record.Record.{Record}
use Rattle.css_domain.specs.Standing.{is_ranked}
use Rattle.css_prune.specs.Marks.{gives_next, rank_after, pick_after}
use Rattle.lists.specs.Members.{IsIn}

module _ (K : ℕ → Bool) (records : List Record) (n : ℕ) where
  -- the rank and pick of a class of an earlier round
  pub record IsEarlier (ranks picks : List ℕ) (c : ℕ) : Type 0 where
    pub rank : slice_index ranks c ≡ rank_after K records n c
    pub pick : slice_index picks c ≡ pick_after K records n c

  pub record IsUnmarked (ranks picks : List ℕ) (c : ℕ) : Type 0 where
    pub rank : slice_index ranks c ≡ 0
    pub pick : slice_index picks c ≡ 0

  -- the class has the round's rank by some record that gives it
  pub record IsNewly (ranks picks : List ℕ) (c : ℕ) : Type 0 where
    pub rank : slice_index ranks c ≡ suc n
    pub by_record : Record
    pub at : slice_get records (slice_index picks c) ≡ Some by_record
    pub gives : gives_next K records n c by_record ≡ true

  -- each class has its earlier rank, or this round's by some record, or none; those with this round's are listed
  pub record AreUnder (classes : ℕ) (ranks picks next : List ℕ) : Type 0 where
    pub earlier : (c : ℕ) → is_ranked K records n c ≡ true → IsEarlier ranks picks c
    pub other : (c : ℕ) → is_ranked K records n c ≡ false → IsUnmarked ranks picks c ⊎ IsNewly ranks picks c
    pub listed : (c : ℕ) → slice_index ranks c ≡ suc n → IsIn c next
    pub small : (c : ℕ) → IsIn c next → c < classes

  -- the record at the place was tried: where it gives a class the round's rank, the class has it, by no later record
  abbrev pub IsTried : List ℕ → List ℕ → ℕ → Type 0
  IsTried ranks picks place = (c : ℕ) (r : Record) → slice_get records place ≡ Some r → is_ranked K records n c ≡ false → gives_next K records n c r ≡ true → (slice_index ranks c ≡ suc n) × (slice_index picks c ≤ place)

  -- what has the round's rank keeps it, by no later record; where none is listed, none came
  pub record IsOnward (old_ranks old_picks old_next ranks picks next : List ℕ) : Type 0 where
    pub grown : (c : ℕ) → is_ranked K records n c ≡ false → slice_index old_ranks c ≡ suc n → (slice_index ranks c ≡ suc n) × (slice_index picks c ≤ slice_index old_picks c)
    pub same : next ≡ [] → (ranks ≡ old_ranks) × (old_next ≡ [])

  -- the records at some places were tried
  pub record IsRun (classes : ℕ) (Among : ℕ → Type 0) (old_ranks old_picks old_next ranks picks next : List ℕ) : Type 0 where
    pub under : AreUnder classes ranks picks next
    pub onward : IsOnward old_ranks old_picks old_next ranks picks next
    pub tried : (place : ℕ) → Among place → IsTried ranks picks place
