-- What a rule makes of a member, and the way back.
use Rattle.std.specs.Prelude.{ℕ, zero, suc, slice_get, Bool, not, ◌&&◌, ◌||◌, ◌==◌, ◌+◌, nat_lt, List, map, filter, flat_map, find, length, Option, None, if◌then◌else◌}
use Rattle.std.specs.List.{list_all, list_any, position_or_len}
use Rattle.std.specs.Option.{option_map_or}
use Rattle.patterns.specs.Occurs.{is_match}
use Rattle.gridded.specs.declared.axis.Axis.{Axis}
use Rattle.gridded.specs.declared.axis.Axis.TheVariants as axis
use Rattle.gridded.specs.declared.cell.Cell.{Cell}
use Rattle.gridded.specs.Axes.{line_of, rank_along}
use Rattle.gridded.specs.CellSets.{is_among as has_cell}
use Rattle.gridded.specs.Grids.{Point, letter_of, same_cell, holds}
use Rattle.gridded.specs.Orders.{cell_eq}
use Rattle.gridded.specs.Parts.{restricted}
use Rattle.gridded.specs.Moved.{relocated, move_cells}
use Rattle.gridded.specs.Places.{lettered}
use Rattle.tiling_core.specs.Tiles.{Tiles}
use Rattle.coord_maps.specs.LineMaps.{part_at}
use Rattle.coord_maps.specs.GridMaps.{collapse}
use Rattle.rule_kinds.specs.Lines.{on_line, numbers_below}
use Rattle.rule_kinds.specs.Pointeds.{PointedPattern}
use Rattle.rule_kinds.specs.declared.kind.Direction.{Direction}
use Rattle.rule_kinds.specs.declared.kind.Kind.{Kind}
use Rattle.rule_kinds.specs.declared.kind.Kind.TheVariants as kind
use Rattle.rule_kinds.specs.Kinds.{pointed_cell, point_of, axis_of, is_farther}
use Rattle.rule_kinds.specs.Children.{over_of, halved}
use Rattle.rule_kinds.specs.Conditions.{all_of}
use Rattle.lists.specs.Parts.{parts}

-- a member of child number `child`
pub record Image : Type 0 where
  pub child : ℕ
  pub member : List Point

-- whether p is the pointed point of an occurrence in g
abbrev pub is_pointed_by : List Point → PointedPattern → Point → Bool
is_pointed_by g q p =
    list_any (λ chosen. is_match letter_of same_cell chosen q.pattern && (point_of chosen q.index).letter == p.letter) (parts (length q.pattern) g)

abbrev pub pointed_points : List PointedPattern → List Point → List Point
pointed_points qs g = filter (λ p. list_any (λ q. is_pointed_by g q p) qs) g

-- the one beyond which none lies
abbrev pub farthest : Direction → List Point → List Point → Option Point
farthest d g points = find (λ p. list_all (λ q. not (is_farther d (rank_along (axis_of d) g q) (rank_along (axis_of d) g p))) points) points

-- the line of q where p's line is cut into three at p
abbrev pub third : Axis → List Point → Point → Point → ℕ
third a g p q = part_at (line_of a p.cell) (rank_along a g q) (rank_along a g p) (line_of a q.cell)

abbrev pub split_cell : List Point → Point → Point → Cell
split_cell g p q = record { x = third axis.Column g p q; y = third axis.Row g p q }

-- g with the column and the row of its point p cut into three at p
abbrev pub split : List Point → Point → List Point
split g p = map (relocated (split_cell g p)) g

-- the number, from 1, of the pattern whose pointed cell this is
abbrev pub number_of : List PointedPattern → Cell → ℕ
number_of qs c = position_or_len (λ q. cell_eq c (pointed_cell q)) qs + 1

abbrev pub placed_image : List PointedPattern → Direction → List Point → Image
placed_image qs d g = option_map_or (λ p. record { child = number_of qs p.cell; member = split g p }) (farthest d g (pointed_points qs g)) (record { child = 0; member = g })

-- the cells of line i outside the set, and those beyond line i, move on by one
abbrev pub parted : Axis → ℕ → List Cell → Cell → Cell
parted a i first c = on_line a (λ k. if (nat_lt i k || k == i && not (has_cell first c)) then k + 1 else k) c

-- the image of a member, where the kind is no product
abbrev pub carry : Kind → List Point → Image
carry (kind.Insert r) g = record { child = if holds g r then 1 else 0; member = g }
carry (kind.Place qs d) g = placed_image qs d g
carry (kind.RowCut y set) g = record { child = 0; member = move_cells (parted axis.Row y set) g }
carry (kind.ColumnCut x set) g = record { child = 0; member = move_cells (parted axis.Column x set) g }
carry _ g = record { child = 0; member = g }

-- the pattern to which a child from 1 on belongs
abbrev pub pattern_of_child : List PointedPattern → ℕ → Option PointedPattern
pattern_of_child qs zero = None
pattern_of_child qs (suc j) = slice_get qs j

-- the way back
abbrev pub back : Tiles → Kind → Image → List Point
back t (kind.Place qs d) i = option_map_or (λ q. collapse (over_of t q) i.member) (pattern_of_child qs i.child) i.member
back t (kind.RowCut y set) i = collapse (halved axis.Row t y) i.member
back t (kind.ColumnCut x set) i = collapse (halved axis.Column t x) i.member
back t _ i = i.member

-- the parts of a member, for a factoring
abbrev pub parts_in : List (List Cell) → List Point → List (List Point)
parts_in sets g = map (λ set. restricted (has_cell set) g) sets

-- the points of line 0, of line 1 and so on, those of one line in their order
abbrev pub by_columns : ℕ → List Point → List Point
by_columns w points = flat_map (λ x. filter (λ p. p.cell.x == x) points) (numbers_below w)

-- gridded permutations with no column or row in common, put together
abbrev pub weave : ℕ → List (List Point) → List Point
weave w gs = let points : List Point = all_of gs in lettered points (by_columns w points)
