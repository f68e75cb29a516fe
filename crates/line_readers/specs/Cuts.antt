-- Items of a text that are still to be read.
use Rattle.std.specs.Prelude.{◌≡◌, ◌<◌, ℕ, Bool, true, false, not, ◌&&◌, nat_eq, length, get_or, List, [], ◌∷◌, Option, Some, None}
use Rattle.spec_lines.specs.Lines.{Text}
use Rattle.spec_lines.specs.Forms.{has_items}
use Rattle.spec_lines.specs.Items.{items, same}

-- none of the first n bytes is this byte
abbrev pub IsNowhere : ℕ → Text → ℕ → Type 0
IsNowhere byte t n = (k : ℕ) → k < n → nat_eq (get_or t k 0) byte ≡ false

pub record IsFirstAt (byte : ℕ) (t : Text) (place : ℕ) : Type 0 where
  pub there : place < length t
  pub is_byte : nat_eq (get_or t place 0) byte ≡ true
  pub before : IsNowhere byte t place

-- the items of the rest, if there is one
abbrev pub items_left : ℕ → Option Text → List Text
items_left byte None = []
items_left byte (Some t) = items byte t

-- the word is the only item
abbrev pub is_alone : Text → List Text → Bool
is_alone word [] = false
is_alone word (t ∷ ts) = same t word && not (has_items ts)
