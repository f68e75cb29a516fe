-- Which classes stand among records, and their ranks and picks.
use Rattle.std.specs.Prelude.{◌≡◌, ◌<◌, ◌↔◌, ◌-◌, ℕ, zero, suc, Bool, false, ◌&&◌, ◌||◌, not, IsTrue, ◌==◌, List, length, map, position, unwrap_or, find, slice_index}
use Rattle.std.specs.List.{range_with_len, list_any, list_all}
use Rattle.css_domain.specs.declared.record.Record.{Record}
use Rattle.css_domain.specs.Records.{numbers, has_same_length}
use Rattle.lists.specs.Members.{IsIn, NoRepeats}

-- a class with a record and a rank
pub record Ranked : Type 0 where
  pub class : ℕ
  pub by_record : Record
  pub rank : ℕ

-- the class rests on classes of the list, and on lower ranks where lengths can stay
pub record RestsOn (triples : List Ranked) (t : Ranked) : Type 0 where
  pub own : t.by_record.parent ≡ t.class
  pub child : (slot : ℕ) → slot < length (numbers t.by_record) → (u : Ranked) × IsIn u triples × (u.class ≡ slice_index (numbers t.by_record) slot) × (IsTrue (has_same_length t.by_record slot) → u.rank < t.rank)

pub record IsSupport (records : List Record) (triples : List Ranked) : Type 0 where
  pub distinct : NoRepeats (map (λ t. t.class) triples)
  pub recorded : (t : Ranked) → IsIn t triples → IsIn t.by_record records
  pub rests : (t : Ranked) → IsIn t triples → RestsOn triples t

-- c stands: it is a class of a list that supports itself
pub record Stands (records : List Record) (c : ℕ) : Type 0 where
  pub triples : List Ranked
  pub support : IsSupport records triples
  pub there : IsIn c (map (λ t. t.class) triples)

-- the slots pass the test where lengths can stay
abbrev pub each_same_length : Record → (ℕ → Bool) → Bool
each_same_length r test = list_all (λ slot. not (has_same_length r slot) || test (slice_index (numbers r) slot)) (range_with_len 0 (length r.children))

-- ranks and picks, where K tells the standing classes
module _ (K : ℕ → Bool) (records : List Record) where
  -- whether the record gives c a rank above those of the ranked classes
  abbrev pub gives : (ℕ → Bool) → ℕ → Record → Bool
  gives ranked c r = (r.parent == c) && (list_all K (numbers r) && each_same_length r ranked)

  -- whether c has a rank after n rounds
  abbrev pub is_ranked : ℕ → ℕ → Bool
  is_ranked zero c = false
  is_ranked (suc n) c = K c && list_any (λ r. gives (λ d. is_ranked n d) c r) records

  -- the first round after which c has a rank; 0 where there is none
  abbrev pub rank_of : ℕ → ℕ
  rank_of c = unwrap_or (find (λ n. is_ranked n c) (range_with_len 1 (length records))) 0

  -- the first record that gives c its rank; 0 where there is none
  abbrev pub pick_of : ℕ → ℕ
  pick_of c = unwrap_or (position (λ r. K c && gives (λ d. is_ranked (rank_of c - 1) d) c r) records) 0

-- K tells the classes that stand
abbrev pub TellsStanding : List Record → (ℕ → Bool) → Type 0
TellsStanding records K = (c : ℕ) → IsTrue (K c) ↔ Stands records c
