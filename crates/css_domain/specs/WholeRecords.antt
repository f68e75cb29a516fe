-- Words that are those of whole records.
use Rattle.std.specs.Prelude.{◌≡◌, ◌<◌, ◌^◌, ℕ, Bool, List}
use Rattle.css_domain.specs.declared.shape.Shape.{Shape}
use Rattle.css_domain.specs.declared.shape.Shape.TheVariants.{Union, Product, Atom, Nothing}
use Rattle.css_domain.specs.declared.record.Record.{Record}
use Rattle.css_domain.specs.Records.{words_of}
use Rattle.lists.specs.Members.{IsIn}

-- an atom's length fits 8 bits
abbrev pub IsNarrowShape : Shape → Type 0
IsNarrowShape Union = Unit {0}
IsNarrowShape Product = Unit {0}
IsNarrowShape Nothing = Unit {0}
IsNarrowShape (Atom k) = k < 256

-- all numbers of classes fit 32 bits, and an atom's length fits 8
pub record IsNarrow (r : Record) : Type 0 where
  pub own : r.parent < 2 ^ 32
  pub shape : IsNarrowShape r.shape
  pub child : (c : ℕ × Bool) → IsIn c r.children → c.0 < 2 ^ 32

-- the words are those of some records, one after another
pub record IsWhole (words : List ℕ) : Type 0 where
  pub records : List Record
  pub narrow : (r : Record) → IsIn r records → IsNarrow r
  pub told : words_of records ≡ words
