-- Records among words, and the records that a pruner keeps.
use Rattle.std.specs.Prelude.{◌≡◌, ◌<◌, ◌≤◌, ◌+◌, ◌*◌, ◌^◌, ℕ, Bool, false, cond, List, length, slice_index, slice_index_or}
use Rattle.css_domain.specs.declared.record.Record.{Record}
use Rattle.css_domain.specs.Records.{shape_code, words_of}
use Rattle.css_domain.specs.WholeRecords.{IsNarrow, IsNarrowShape}
use Rattle.css_prune.specs.Marks.{AreShort}
use Rattle.lists.specs.Members.{IsIn}

-- the child in a slot
abbrev pub child_at : List (ℕ × Bool) → ℕ → ℕ × Bool
child_at children slot = slice_index_or children slot (0, false)

-- the words from a place on begin with those of the record
pub record StandsAt (words : List ℕ) (at : ℕ) (r : Record) : Type 0 where
  pub narrow : IsNarrow r
  pub head : slice_index words at ≡ r.parent * 2 ^ 32 + shape_code r.shape
  pub arity : slice_index words (at + 1) ≡ length r.children
  pub child : (slot : ℕ) → slot < length r.children → slice_index words (at + 2 + slot) ≡ 2 * (child_at r.children slot).0 + cond (child_at r.children slot).1 1 0
  pub within : at + 2 + length r.children ≤ length words

-- some record stands there, with so many children
abbrev pub StandsThere : List ℕ → ℕ → ℕ → Type 0
StandsThere words at count = (r : Record) × StandsAt words at r × (count ≡ length r.children)

-- what a pruner keeps of its records: how many words they have, that their shapes have codes, and that they can be numbered
pub record AreKept (records : List Record) (words : ℕ) : Type 0 where
  pub counted : words ≡ length (words_of records)
  pub coded : (r : Record) → IsIn r records → IsNarrowShape r.shape
  pub short : AreShort records
