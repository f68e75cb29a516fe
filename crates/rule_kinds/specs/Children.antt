-- The children of a tiling by a kind of rule, before they are reduced.
use Rattle.std.specs.Prelude.{ℕ, Bool, not, ◌&&◌, ◌+◌, List, [], ◌∷◌, ◌++◌, map, filter, flat_map, if◌then◌else◌}
use Rattle.std.specs.List.{list_all}
use Rattle.gridded.specs.declared.axis.Axis.{Axis}
use Rattle.gridded.specs.declared.axis.Axis.TheVariants as axis
use Rattle.gridded.specs.declared.cell.Cell.{Cell}
use Rattle.gridded.specs.Axes.{line_of, shares_line}
use Rattle.gridded.specs.CellSets.{is_among as has_cell}
use Rattle.gridded.specs.Grids.{Point}
use Rattle.gridded.specs.Orders.{cell_eq}
use Rattle.tiling_core.specs.Tiles.{Tiles, tiling_of}
use Rattle.gridded.specs.Small.{point_at, rising, falling}
use Rattle.gridded.specs.Parts.{lies_in}
use Rattle.tiling_core.specs.Patterns.{also}
use Rattle.coord_maps.specs.declared.grid_map.GridMap.{GridMap}
use Rattle.coord_maps.specs.LineMaps.{Cut}
use Rattle.coord_maps.specs.Preimages.{preimages}
use Rattle.coord_maps.specs.Stretches.{stretch}
use Rattle.rule_kinds.specs.Lines.{on_line, lines, cells_of_grid, active_on}
use Rattle.rule_kinds.specs.Pointeds.{PointedPattern}
use Rattle.rule_kinds.specs.declared.kind.Direction.{Direction}
use Rattle.rule_kinds.specs.declared.kind.Kind.{Kind}
use Rattle.rule_kinds.specs.declared.kind.Kind.TheVariants as kind
use Rattle.rule_kinds.specs.Kinds.{pointed_cell, point_of, axis_of, is_farther}

abbrev pub uncut : Axis → Tiles → Cut
uncut a t = record { lines = lines a t; at = 0; parts = 1 }

abbrev pub cut_line : Axis → Tiles → ℕ → ℕ → Cut
cut_line a t i n = record { lines = lines a t; at = i; parts = n }

-- ---- Place
-- the map that cuts the column and the row of a cell into three, and the cell in the middle
abbrev pub around : Tiles → Cell → GridMap
around t c = record { columns = cut_line axis.Column t c.x 3; rows = cut_line axis.Row t c.y 3 }

abbrev pub middle : Cell → Cell
middle c = record { x = c.x + 1; y = c.y + 1 }

-- the map around the pointed cell of a pattern, and the cell in its middle
abbrev pub over_of : Tiles → PointedPattern → GridMap
over_of t q = around t (pointed_cell q)

abbrev pub middle_of : PointedPattern → Cell
middle_of q = middle (pointed_cell q)

-- whether a cell lies farther in a direction than m
abbrev pub is_beyond : Direction → Cell → Cell → Bool
is_beyond d m c = is_farther d (line_of (axis_of d) c) (line_of (axis_of d) m)

-- m has at most one point, and no other cell of its column and row has any
abbrev pub alone_in : Tiles → Cell → List (List Point)
alone_in t m = rising m m ∷ falling m m ∷ map point_at (filter (λ c. shares_line c m && not (cell_eq c m)) (cells_of_grid t))

-- the preimages of a pattern whose pointed point is in a cell as asked
abbrev pub lifts_pointed : GridMap → (Cell → Bool) → PointedPattern → List (List Point)
lifts_pointed m test q = filter (λ g. test (point_of g q.index).cell) (preimages m q.pattern)

-- the child in which the farthest point is one that q points to
abbrev pub placed : Tiles → List PointedPattern → Direction → PointedPattern → Tiles
placed t qs d q =
    let wide : Tiles = stretch (over_of t q) t in
    also wide (alone_in wide (middle_of q) ++ flat_map (lifts_pointed (over_of t q) (is_beyond d (middle_of q))) qs)
    ((point_at (middle_of q) ∷ []) ∷ lifts_pointed (over_of t q) (cell_eq (middle_of q)) q ∷ [])

abbrev pub patterns_pointed : List PointedPattern → List (List Point)
patterns_pointed qs = map (λ (q : PointedPattern). q.pattern) qs

-- ---- RowCut and ColumnCut
abbrev pub halved : Axis → Tiles → ℕ → GridMap
halved axis.Row t y = record { columns = uncut axis.Column t; rows = cut_line axis.Row t y 2 }
halved axis.Column t x = record { columns = cut_line axis.Column t x 2; rows = uncut axis.Row t }

-- the part of a cut line in which a cell's points may not be: the cells of the set keep the first part
abbrev pub barred_half : Axis → List Cell → Cell → Cell
barred_half a first c = if has_cell first c then on_line a (λ i. i + 1) c else c

abbrev pub cut : Axis → Tiles → ℕ → List Cell → Tiles
cut a t i first = also (stretch (halved a t i) t) (map (λ c. point_at (barred_half a first c)) (active_on a i t)) []

-- ---- Factor
abbrev pub factor : Tiles → List Cell → Tiles
factor t set =
    let outside : List Cell = filter (λ c. not (has_cell set c)) (cells_of_grid t) in
    tiling_of t.width t.height (map point_at outside ++ filter inside t.obstructions) (filter (λ patterns. list_all inside patterns) t.requirements)
  where
    inside : List Point → Bool
    inside g = lies_in (has_cell set) g

-- ---- each kind
unfoldable pub raw_children : Tiles → Kind → List Tiles
raw_children t kind.Unit = []
raw_children t kind.Point = []
raw_children t kind.Void = []
raw_children t (kind.Insert r) = also t (r ∷ []) [] ∷ also t [] ((r ∷ []) ∷ []) ∷ []
raw_children t (kind.Place qs d) = also t (patterns_pointed qs) [] ∷ map (placed t qs d) qs
raw_children t (kind.RowCut y set) = cut axis.Row t y set ∷ []
raw_children t (kind.ColumnCut x set) = cut axis.Column t x set ∷ []
raw_children t (kind.Factor sets) = map (factor t) sets
raw_children t (kind.Infer patterns) = also t patterns [] ∷ []
