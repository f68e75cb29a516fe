-- The gridded permutations of the new grid that collapse to one of the old grid.
use Rattle.std.specs.Prelude.{ℕ, Bool, List, [], ◌∷◌, ◌++◌, length, filter, flat_map, take, slice_index_or, if◌then◌else◌}
use Rattle.std.specs.List.{range_with_len, list_all}
use Rattle.gridded.specs.declared.cell.Cell.{Cell}
use Rattle.gridded.specs.Grids.{Point, points, corner, may_follow, gridded_of}
use Rattle.gridded.specs.Orders.{gridded_eq, letters_of}
use Rattle.coord_maps.specs.declared.grid_map.GridMap.{GridMap}
use Rattle.coord_maps.specs.LineMaps.{Cut, new_lines, first_line, parts_of}
use Rattle.coord_maps.specs.GridMaps.{collapse}

-- of all gridded permutations of the new grid with the length of g, those whose collapse is g
abbrev pub preimages : GridMap → List Point → List (List Point)
preimages m g = filter (λ h. gridded_eq (collapse m h) g) (gridded_of (new_lines m.columns) (new_lines m.rows) (length g))

-- the new lines that go to an old one
abbrev pub lines_over : Cut → ℕ → List ℕ
lines_over m old = range_with_len (first_line m old) (parts_of m old)

-- whether a point may stand right of some others
abbrev pub may_come : List Point → Point → Bool
may_come s q = list_all (λ p. may_follow p q) s

-- the point with its letter in the cell of a column and a row
abbrev pub put : Point → ℕ → ℕ → Point
put p x y = record { letter = p.letter; cell = record { x = x; y = y } }

-- the points s, and then those of g, each in some new cell that goes to its own, so that the whole is consistent where s is
abbrev pub completions : GridMap → List Point → List Point → List (List Point)
completions m s [] = s ∷ []
completions m s (p ∷ g) =
    flat_map (λ x. flat_map (λ y. if may_come s (put p x y) then completions m (s ++ put p x y ∷ []) g else []) (lines_over m.rows p.cell.y)) (lines_over m.columns p.cell.x)

-- those whose next point is in a column and a row
abbrev pub in_cell : GridMap → List Point → Point → List Point → ℕ → ℕ → List (List Point)
in_cell m s p g x y = if may_come s (put p x y) then completions m (s ++ put p x y ∷ []) g else []

-- those whose next point is in a column
abbrev pub in_column : GridMap → List Point → Point → List Point → ℕ → List (List Point)
in_column m s p g x = flat_map (in_cell m s p g x) (lines_over m.rows p.cell.y)

-- the first points of g, in other cells
abbrev pub placed_points : List Point → List Cell → ℕ → List Point
placed_points g cells n = points (take n (letters_of g)) (take n cells)

-- the point at a place
abbrev pub point_at : List Point → ℕ → Point
point_at g n = slice_index_or g n (record { letter = 0; cell = corner })
