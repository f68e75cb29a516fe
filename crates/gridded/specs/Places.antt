-- Where the points of a gridded permutation stand, and points in other places.
use Rattle.std.specs.Prelude.{ℕ, Bool, ◌&&◌, ◌||◌, ◌==◌, nat_lt, List, map, count_by}
use Rattle.std.specs.List.{list_all, list_any}
use Rattle.gridded.specs.declared.cell.Cell.{Cell}
use Rattle.gridded.specs.Grids.{Point}
use Rattle.gridded.specs.Orders.{cell_eq, cells_of}

-- whether the cells lie in the grid of w columns and h rows
abbrev pub fits_grid : ℕ → ℕ → List Point → Bool
fits_grid w h g = list_all (λ c. nat_lt c.x w && nat_lt c.y h) (cells_of g)

-- whether some point lies in such a cell
abbrev pub touches : (Cell → Bool) → List Point → Bool
touches test g = list_any test (cells_of g)

abbrev pub has_one_point_in : Cell → List Point → Bool
has_one_point_in c g = count_by (cell_eq c) (cells_of g) == 1

-- whether p lies lower than q: in a lower row, or in the same with a lower letter
abbrev pub is_below : Point → Point → Bool
is_below p q = nat_lt p.cell.y q.cell.y || p.cell.y == q.cell.y && nat_lt p.letter q.letter

-- how many of some points lie lower than q
abbrev pub lower_in : List Point → Point → ℕ
lower_in ps q = count_by (λ p. is_below p q) ps

abbrev pub lettered_point : List Point → Point → Point
lettered_point ps q = record { letter = lower_in ps q; cell = q.cell }

-- the points of qs, each with the number of points of ps that lie lower as its letter
abbrev pub lettered : List Point → List Point → List Point
lettered ps qs = map (lettered_point ps) qs
