-- Ranks as marks that grow record by record.
use Rattle.std.specs.Prelude.{◌≡◌, ◌≢◌, ◌⊎◌, ◌<◌, ◌^◌, ℕ, zero, suc, Bool, true, ◌&&◌, cond, nat_lt, nat_le, not, ◌==◌, ◌||◌, List, length, map, slice_index, slice_set, count_by, false}
use Rattle.std.specs.List.{position_or_len, list_all}
use Rattle.css_domain.specs.declared.record.Record.{Record}
use Rattle.css_domain.specs.Records.{numbers}
use Rattle.css_prune.specs.Pruning.{kept}
use Rattle.css_domain.specs.Standing.{gives, is_ranked, rank_of, pick_of, each_same_length}
use Rattle.lists.specs.Members.{IsIn}

-- the records can be numbered, and so can the children of each
pub record AreShort (records : List Record) : Type 0 where
  pub few : length records < 2 ^ 32
  pub short : (r : Record) → IsIn r records → length r.children < 2 ^ 32

-- whether a class has one of the ranks below the end
abbrev pub has_rank_below : ℕ → List ℕ → ℕ → Bool
has_rank_below end ranks c = nat_lt 0 (slice_index ranks c) && nat_lt (slice_index ranks c) end

module _ (K : ℕ → Bool) (records : List Record) where
  -- whether the record gives c a rank in the round after n rounds
  abbrev pub gives_next : ℕ → ℕ → Record → Bool
  gives_next n c r = K c && gives K records (λ d. is_ranked K records n d) c r

  -- the first record that does; their number where none does
  unfoldable pub giver : ℕ → ℕ → ℕ
  giver n c = position_or_len (gives_next n c) records

  -- the mark of c when the first records have been gone through in the round after n rounds: the old one
  -- where it has a rank, else the new one where one of these gave it a rank, else none
  abbrev pub mark : ℕ → ℕ → ℕ → ℕ → ℕ → ℕ
  mark n seen c old new = cond (is_ranked K records n c) old (cond (nat_lt (giver n c) seen) new 0)

  -- rank and pick after n rounds
  abbrev pub rank_after : ℕ → ℕ → ℕ
  rank_after zero c = 0
  rank_after (suc n) c = mark n (length records) c (rank_after n c) (suc n)

  abbrev pub pick_after : ℕ → ℕ → ℕ
  pick_after zero c = 0
  pick_after (suc n) c = mark n (length records) c (pick_after n c) (giver n c)

  -- the ranks and picks after n rounds
  pub record AreAfter (n : ℕ) (ranks picks : List ℕ) : Type 0 where
    pub ranked : (c : ℕ) → slice_index ranks c ≡ rank_after n c
    pub picked : (c : ℕ) → slice_index picks c ≡ pick_after n c

  -- the ranks and picks when no round adds any
  pub record AreRanks (ranks picks : List ℕ) : Type 0 where
    pub ranked : (c : ℕ) → slice_index ranks c ≡ rank_of K records c
    pub picked : (c : ℕ) → slice_index picks c ≡ pick_of K records c

-- whether the record gives its parent a rank above those below the end
abbrev pub gives_mark : (ℕ → Bool) → ℕ → List ℕ → Record → Bool
gives_mark K end ranks r = K r.parent && (list_all K (numbers r) && each_same_length r (has_rank_below end ranks))

-- the children's numbers are below the number of classes
abbrev pub AreBelow : ℕ → List (ℕ × Bool) → Type 0
AreBelow classes children = (slot : ℕ) → slot < length children → slice_index (map (λ child. child.0) children) slot < classes

-- whether nothing is left to give at this place: the rank is an earlier one, or this one by an earlier record
abbrev pub is_passed : ℕ → ℕ → ℕ → ℕ → Bool
is_passed end place rank pick = nat_lt 0 rank && (not (rank == end) || nat_le pick place)

-- what is done with one record: its parent gets the new rank where it has none and the record gives it
pub record IsGiven (K : ℕ → Bool) (end place : ℕ) (r : Record) (old_ranks old_picks new_ranks new_picks : List ℕ) : Type 0 where
  pub none : slice_index old_ranks r.parent ≡ 0
  pub gives : gives_mark K end old_ranks r ≡ true
  pub ranks : new_ranks ≡ slice_set old_ranks r.parent end
  pub picks : new_picks ≡ slice_set old_picks r.parent place

-- the parent has the new rank by a later record, and this one becomes its pick
pub record IsBetter (K : ℕ → Bool) (end place : ℕ) (r : Record) (old_ranks old_picks new_ranks new_picks : List ℕ) : Type 0 where
  pub some : slice_index old_ranks r.parent ≢ 0
  pub later : is_passed end place (slice_index old_ranks r.parent) (slice_index old_picks r.parent) ≡ false
  pub gives : gives_mark K end old_ranks r ≡ true
  pub ranks : new_ranks ≡ old_ranks
  pub picks : new_picks ≡ slice_set old_picks r.parent place

pub record IsSkipped (K : ℕ → Bool) (end place : ℕ) (r : Record) (old_ranks old_picks new_ranks new_picks : List ℕ) : Type 0 where
  pub why : (is_passed end place (slice_index old_ranks r.parent) (slice_index old_picks r.parent) ≡ true) ⊎ (gives_mark K end old_ranks r ≡ false)
  pub ranks : new_ranks ≡ old_ranks
  pub picks : new_picks ≡ old_picks

-- how many are kept
abbrev pub how_many : List Bool → ℕ
how_many keep = count_by (λ b. b) keep

-- kept before, and with a rank
pub record AreDropped (ranks : List ℕ) (old new : List Bool) : Type 0 where
  pub as_many : length new ≡ length old
  pub left : (c : ℕ) → kept new c ≡ (kept old c && nat_lt 0 (slice_index ranks c))
