-- Sets of cells with x and y below 8, as the ascending list of their cells. Bit 8x + y stands for (x, y).
use Rattle.std.specs.Prelude.{◌≡◌, ◌<◌, ◌≤◌, ℕ, Bool, ◌||◌, ◌==◌, ◌+◌, ◌*◌, ◌^◌, cond, List, [], ◌∷◌, map, filter, ◌⊎◌, ◌↔◌}
use Rattle.std.specs.Int.{bit_at}
use Rattle.std.specs.List.{list_any, range_with_len, sum_by}
use Rattle.gridded.specs.declared.cell.Cell.{Cell}
use Rattle.gridded.specs.Grids.{cells_in}
use Rattle.gridded.specs.Orders.{cell_eq}
use Rattle.lists.specs.Members.{IsIn}

-- the cells with x and y below 8 that pass a test, ascending
unfoldable pub cells_that : (Cell → Bool) → List Cell
cells_that test = filter test (cells_in 8 8)

abbrev pub is_among : List Cell → Cell → Bool
is_among cells c = list_any (λ d. cell_eq c d) cells

-- the cells of the set and one more
abbrev pub with_cell : List Cell → Cell → List Cell
with_cell set cell = cells_that (λ c. cell_eq c cell || is_among set c)

-- a set is the ascending list of its cells
abbrev pub IsCellSet : List Cell → Type 0
IsCellSet set = set ≡ cells_that (λ c. is_among set c)

-- larger has the cells of set, and cell
abbrev pub HasOneMore : List Cell → Cell → List Cell → Type 0
HasOneMore set cell larger = (c : Cell) → IsIn c larger ↔ ((c ≡ cell) ⊎ IsIn c set)

-- c is in the set, and no cell of the set comes before it by x and then y
pub record IsLeast (c : Cell) (set : List Cell) : Type 0 where
  pub among : IsIn c set
  pub least : (d : Cell) → IsIn d set → (c.x < d.x) ⊎ ((c.x ≡ d.x) × (c.y ≤ d.y))

-- ---- bits
abbrev pub bit_of : Cell → ℕ
bit_of c = 8 * c.x + c.y

abbrev pub has_bit : ℕ → Cell → Bool
has_bit bits c = bit_at bits (bit_of c) == 1

abbrev pub cells_with_bits : ℕ → List Cell
cells_with_bits bits = cells_that (has_bit bits)

abbrev pub bits_of : List Cell → ℕ
bits_of set = sum_by (λ c. 2 ^ bit_of c) set

-- ---- column by column
-- the cell, where it is in the set
abbrev pub one_of : List Cell → Cell → List Cell
one_of set c = cond (is_among set c) (c ∷ []) []

-- those of the n lowest cells of a column that are in the set
abbrev pub column_of : List Cell → ℕ → ℕ → List Cell
column_of set x n = filter (λ c. is_among set c) (map (λ y. record { x = x; y = y }) (range_with_len 0 n))
