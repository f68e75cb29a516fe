-- Slots that wait for the rank of a class, each with the one before it.
use Rattle.std.specs.Prelude.{◌≡◌, ◌<◌, ◌≤◌, ℕ, suc, true, List, length, slice_get, slice_index, Some}
use Rattle.css_domain.specs.declared.record.Record.{Record}
use Rattle.css_domain.specs.Records.{numbers, has_same_length}
use Rattle.css_prune.specs.declared.waiting.Slot.{Slot}
use Rattle.css_prune.specs.declared.waiting.Waiting.{Waiting}
use Rattle.lists.specs.Members.{IsIn}

-- the slot at the place waits for the class
pub record HasClass (slots : List Slot) (i class : ℕ) : Type 0 where
  pub slot : Slot
  pub at : slice_get slots i ≡ Some slot
  pub own : slot.class ≡ class

-- by class the number of its last slot, with each slot that of the class's slot before it, 0 for none; the places are those of records
pub record AreChained (count : ℕ) (last : List ℕ) (slots : List Slot) : Type 0 where
  pub place : (i : ℕ) (s : Slot) → slice_get slots i ≡ Some s → s.place < count
  pub last_own : (c i : ℕ) → slice_index last c ≡ suc i → HasClass slots i c
  pub last_past : (i : ℕ) (s : Slot) → slice_get slots i ≡ Some s → i < slice_index last s.class
  pub before_less : (j i : ℕ) (s : Slot) → slice_get slots j ≡ Some s → s.before ≡ suc i → i < j
  pub before_own : (j i : ℕ) (s : Slot) → slice_get slots j ≡ Some s → s.before ≡ suc i → HasClass slots i s.class
  pub before_past : (i j : ℕ) (s t : Slot) → slice_get slots j ≡ Some s → slice_get slots i ≡ Some t → t.class ≡ s.class → i < j → i < s.before

-- the record at the place has a slot that waits for the class
pub record IsWaiting (slots : List Slot) (class place : ℕ) : Type 0 where
  pub i : ℕ
  pub slot : Slot
  pub at : slice_get slots i ≡ Some slot
  pub own : slot.class ≡ class
  pub by_place : slot.place ≡ place

-- each slot of the record before the end that keeps the length waits for its child's class
abbrev pub RecordWaits : List Slot → ℕ → Record → ℕ → Type 0
RecordWaits slots place r end = (slot : ℕ) → slot < end → has_same_length r slot ≡ true → IsWaiting slots (slice_index (numbers r) slot) place

-- the records before the end wait
abbrev pub AllWait : List Record → List Slot → ℕ → Type 0
AllWait records slots end = (place : ℕ) (r : Record) → place < end → slice_get records place ≡ Some r → RecordWaits slots place r (length r.children)

-- all slots wait that can
pub record AreWaiting (records : List Record) (classes : ℕ) (waiting : Waiting) : Type 0 where
  pub as_many : length waiting.last.items ≡ classes
  pub chained : AreChained (length records) waiting.last.items waiting.slots.items
  pub all : AllWait records waiting.slots.items (length records)

-- the record at the place waits for one of the classes
pub record WaitsForOne (slots : List Slot) (classes : List ℕ) (place : ℕ) : Type 0 where
  pub class : ℕ
  pub there : IsIn class classes
  pub waits : IsWaiting slots class place

-- the record at the place waits for the class by a slot from a number on
pub record WaitsFrom (slots : List Slot) (class from place : ℕ) : Type 0 where
  pub i : ℕ
  pub slot : Slot
  pub at : slice_get slots i ≡ Some slot
  pub own : slot.class ≡ class
  pub by_place : slot.place ≡ place
  pub past : from ≤ i
