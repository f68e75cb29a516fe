-- The length, the letters and the cells of a gridded permutation as bytes, and as words of eight bytes.
use Rattle.std.specs.Prelude.{◌≡◌, ◌<◌, ℕ, List, [], ◌∷◌, length, slice_index_or, slice_index}
use Rattle.std.specs.Int.{w64, from_be_bytes}
use Rattle.std.specs.List.{AllByRecursion}
use Rattle.gridded.specs.declared.cell.Cell.{Cell}
use Rattle.gridded.specs.Grids.{Point, corner, nine_letters, nine_cells}
use Rattle.gridded.specs.Orders.{letters_of, cells_of}

-- the letter at one of nine places
abbrev pub letter_at : List Point → ℕ → ℕ
letter_at g i = slice_index (nine_letters (letters_of g)) i

-- the cell at one of nine places
abbrev pub cell_at : List Point → ℕ → Cell
cell_at g i = slice_index_or (nine_cells (cells_of g)) i corner

abbrev pub AreBytes : List ℕ → Type 0
AreBytes xs = AllByRecursion (λ b. b < 256) xs

abbrev pub first_bytes : List Point → List ℕ
first_bytes g = length g ∷ letter_at g 0 ∷ letter_at g 1 ∷ letter_at g 2 ∷ letter_at g 3 ∷ letter_at g 4 ∷ letter_at g 5 ∷ letter_at g 6 ∷ []

abbrev pub second_bytes : List Point → List ℕ
second_bytes g = letter_at g 7 ∷ letter_at g 8 ∷ (cell_at g 0).x ∷ (cell_at g 0).y ∷ (cell_at g 1).x ∷ (cell_at g 1).y ∷ (cell_at g 2).x ∷ (cell_at g 2).y ∷ []

abbrev pub third_bytes : List Point → List ℕ
third_bytes g = (cell_at g 3).x ∷ (cell_at g 3).y ∷ (cell_at g 4).x ∷ (cell_at g 4).y ∷ (cell_at g 5).x ∷ (cell_at g 5).y ∷ (cell_at g 6).x ∷ (cell_at g 6).y ∷ []

abbrev pub last_bytes : List Point → List ℕ
last_bytes g = (cell_at g 7).x ∷ (cell_at g 7).y ∷ (cell_at g 8).x ∷ (cell_at g 8).y ∷ 0 ∷ 0 ∷ 0 ∷ 0 ∷ []

-- a word of bytes, the first the highest
pub record IsWordOf (bytes : List ℕ) (word : ℕ) : Type 0 where
  pub value : word ≡ from_be_bytes w64 bytes
  pub are_bytes : AreBytes bytes
