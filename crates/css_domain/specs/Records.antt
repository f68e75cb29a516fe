-- Records, which are rules by the numbers of their classes, and their words.
use Rattle.std.specs.Prelude.{ℕ, ◌+◌, ◌*◌, ◌^◌, ◌<◌, Bool, cond, List, ◌∷◌, length, map, slice_index, flat_map}
use Rattle.css_domain.specs.declared.shape.Shape.{Shape}
use Rattle.css_domain.specs.declared.shape.Shape.TheVariants.{Union, Product, Atom, Nothing}
use Rattle.css_domain.specs.declared.record.Record.{Record}
use Rattle.css_domain.specs.Shapes.{is_same_length}
use Rattle.lists.specs.Members.{IsIn}

-- the children's numbers
abbrev pub numbers : Record → List ℕ
numbers r = map (λ child. child.0) r.children

-- which children are positive
abbrev pub flags : Record → List Bool
flags r = map (λ child. child.1) r.children

abbrev pub has_same_length : Record → ℕ → Bool
has_same_length r slot = is_same_length r.shape (flags r) slot

-- 0 for a union, 1 for a product, 2 for nothing, 16 + k for an atom of length k
abbrev pub shape_code : Shape → ℕ
shape_code Union = 0
shape_code Product = 1
shape_code Nothing = 2
shape_code (Atom k) = 16 + k

-- the words of a record: parent and shape, the number of children, and a word for each child
abbrev pub record_words : Record → List ℕ
record_words r = (r.parent * 2 ^ 32 + shape_code r.shape) ∷ length r.children ∷ map (λ child. 2 * child.0 + cond child.1 1 0) r.children

-- the words of some records, one after another
abbrev pub words_of : List Record → List ℕ
words_of records = flat_map record_words records

-- all numbers of the record are below the number of classes
pub record IsWithin (classes : ℕ) (r : Record) : Type 0 where
  pub own : r.parent < classes
  pub child : (slot : ℕ) → slot < length (numbers r) → slice_index (numbers r) slot < classes

abbrev pub AreWithin : ℕ → List Record → Type 0
AreWithin classes records = (r : Record) → IsIn r records → IsWithin classes r
