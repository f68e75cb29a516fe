-- Which lists of entries are no specification, and the first fault of each.
use Rattle.std.specs.Prelude.{◌≡◌, ◌<◌, ℕ, IsTrue, List, [], length, slice_get, slice_index, Some}
use Rattle.css_domain.specs.Meanings.{Meaning}
use Rattle.css_domain.specs.Entries.{Entry, IsCalled, can_keep_length}
use Rattle.css_prune.specs.declared.faults.SpecFault.{SpecFault}
use Rattle.css_prune.specs.declared.faults.SpecFault.TheVariants.{Empty, Rule, Rank}

-- what stands at each of the first n places meets P
abbrev pub EachBefore : {X : Type 0} → (ℕ → X → Type 0) → List X → ℕ → Type 0
EachBefore {X} P xs n = (j : ℕ) (x : X) → j < n → slice_get xs j ≡ Some x → P j x

module _ {C R : Type 0} (D : Meaning C R) where
  -- the entry that is named for the slot has the class of the rule's child
  pub record IsMatched (entries : List (Entry C R)) (e : Entry C R) (slot : ℕ) : Type 0 where
    pub named : Entry C R
    pub there : slice_get entries (slice_index e.children slot) ≡ Some named
    pub class : slice_get (D.children e.rule) slot ≡ Some named.class

  -- an entry before place i has the class c
  pub record IsRepeated (entries : List (Entry C R)) (i : ℕ) (c : C) : Type 0 where
    pub j : ℕ
    pub earlier : j < i
    pub by : Entry C R
    pub there : slice_get entries j ≡ Some by
    pub class : by.class ≡ c

  -- nothing but a rank can be wrong in the entry at place i
  pub record IsRuleRight (entries : List (Entry C R)) (i : ℕ) (e : Entry C R) : Type 0 where
    pub own : D.parent e.rule ≡ e.class
    pub as_many : length e.children ≡ length (D.children e.rule)
    pub child : (slot : ℕ) → slot < length e.children → IsMatched entries e slot
    pub new : IsRepeated entries i e.class → ⊥
    pub called : 0 < i → IsCalled D entries i

  -- a child that can be as long as its parent has a smaller rank
  abbrev pub IsRankRight : List (Entry C R) → Entry C R → ℕ → Type 0
  IsRankRight entries e slot = IsTrue (can_keep_length D e.rule slot) → (named : Entry C R) → slice_get entries (slice_index e.children slot) ≡ Some named → named.rank < e.rank

  abbrev pub AreRanksRight : List (Entry C R) → ℕ → Entry C R → Type 0
  AreRanksRight entries i e = (slot : ℕ) → slot < length e.children → IsRankRight entries e slot

  -- place i is the first where more than a rank is wrong
  pub record IsFirstWrongRule (entries : List (Entry C R)) (i : ℕ) : Type 0 where
    pub entry : Entry C R
    pub at : slice_get entries i ≡ Some entry
    pub wrong : IsRuleRight entries i entry → ⊥
    pub before : EachBefore (IsRuleRight entries) entries i

  -- the slot is the entry's first with a wrong rank
  pub record IsFirstWrongSlot (entries : List (Entry C R)) (e : Entry C R) (slot : ℕ) : Type 0 where
    pub within : slot < length e.children
    pub wrong : IsRankRight entries e slot → ⊥
    pub before : (s : ℕ) → s < slot → IsRankRight entries e s

  -- the entry at place i is the first with a wrong rank, in the first such slot, which names the entry at place k
  pub record IsFirstWrongRank (entries : List (Entry C R)) (i k : ℕ) : Type 0 where
    pub entry : Entry C R
    pub at : slice_get entries i ≡ Some entry
    pub slot : ℕ
    pub first : IsFirstWrongSlot entries entry slot
    pub names : slice_get entry.children slot ≡ Some k
    pub before : EachBefore (AreRanksRight entries) entries i

  -- the fault is the first in the order Empty, Rule, Rank, at the least entry and slot
  abbrev pub IsFirstFault : List (Entry C R) → SpecFault → Type 0
  IsFirstFault entries Empty = entries ≡ []
  IsFirstFault entries (Rule entry) = IsFirstWrongRule entries entry
  IsFirstFault entries (Rank entry child) = EachBefore (IsRuleRight entries) entries (length entries) × IsFirstWrongRank entries entry child
