-- Parts of a gridded permutation, the letters of which close up.
use Rattle.std.specs.Prelude.{◌≡◌, ◌≤◌, ℕ, Bool, List, length, map, filter}
use Rattle.std.specs.List.{remove, list_all}
use Rattle.patterns.specs.Ranks.{rank}
use Rattle.patterns.specs.Occurs.{IsSameOrder}
use Rattle.gridded.specs.declared.cell.Cell.{Cell}
use Rattle.gridded.specs.Grids.{Point, IsGridded}
use Rattle.gridded.specs.Orders.{letters_of, cells_of}

-- the point with the number of smaller letters as its letter
abbrev pub ranked : List ℕ → Point → Point
ranked letters p = record { letter = rank letters p.letter; cell = p.cell }

-- the same cells, with the letters from 0 on in the same relative order
abbrev pub closed_up : List Point → List Point
closed_up part = map (ranked (letters_of part)) part

-- a gridded permutation with the cells and the relative order of the part
pub record IsClosedUp (part closed : List Point) : Type 0 where
  pub cells : cells_of closed ≡ cells_of part
  pub order : IsSameOrder (letters_of closed) (letters_of part)
  pub gridded : IsGridded closed

-- g without the point at a place
abbrev pub without_point : List Point → ℕ → List Point
without_point g i = closed_up (remove g i)

-- the points of g whose cells pass a test
abbrev pub restricted : (Cell → Bool) → List Point → List Point
restricted test g = closed_up (filter (λ p. test p.cell) g)

-- room for nine points, of which the first len places are used
pub record HasRoom (len : ℕ) (letters : List ℕ) (cells : List Cell) : Type 0 where
  pub few : len ≤ 9
  pub letter_places : length letters ≡ 9
  pub cell_places : length cells ≡ 9

-- all points lie in cells that pass
abbrev pub lies_in : (Cell → Bool) → List Point → Bool
lies_in test g = list_all test (cells_of g)
