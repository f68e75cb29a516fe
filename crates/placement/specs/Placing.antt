-- Placements by parts.
use Rattle.std.specs.Prelude.{ℕ, Bool, ◌&&◌, ◌||◌, not, nat_le, List, [], ◌∷◌, map, filter, flat_map, length, ◌==◌, if◌then◌else◌}
use Rattle.std.specs.List.{list_all, range_with_len}
use Rattle.gridded.specs.declared.axis.Axis.{Axis}
use Rattle.gridded.specs.declared.cell.Cell.{Cell}
use Rattle.gridded.specs.Axes.{shares_line}
use Rattle.gridded.specs.Grids.{Point}
use Rattle.gridded.specs.Orders.{cell_eq}
use Rattle.gridded.specs.Small.{point_at}
use Rattle.tiling_core.specs.Tiles.{Tiles}
use Rattle.lists.specs.Members.{is_nil}
use Rattle.rule_kinds.specs.Lines.{in_grid, numbers_below}
use Rattle.rule_kinds.specs.Pointeds.{PointedPattern}
use Rattle.rule_kinds.specs.Kinds.{pointed_cell}
use Rattle.rule_kinds.specs.Children.{around, is_beyond}
use Rattle.rule_kinds.specs.Conditions.{applies, preimage_sum, most_preimages, all_distinct, on_one_line}
use Rattle.rule_kinds.specs.declared.kind.Direction.{Direction}
use Rattle.rule_kinds.specs.declared.kind.Direction.TheVariants.{North, South, East, West}
use Rattle.placement.specs.declared.lifting.Sought.{Sought}
use Rattle.placement.specs.declared.lifting.Sought.TheVariants as sought
use Rattle.rule_kinds.specs.declared.kind.Kind.{Kind}
use Rattle.rule_kinds.specs.declared.kind.Kind.TheVariants as kind

-- 1 to 8 patterns, and sides of at most 6
abbrev pub is_small : Tiles → List PointedPattern → Bool
is_small t qs = nat_le 1 (length qs) && nat_le (length qs) 8 && nat_le t.width 6 && nat_le t.height 6

-- whether the patterns can be placed in the directions that compare the lines of an axis
abbrev pub can_place_along : Tiles → List PointedPattern → Axis → Bool
can_place_along t qs a =
    is_small t qs && list_all (λ q. in_grid t q.pattern) qs
    && all_distinct (map pointed_cell qs) && on_one_line a (map pointed_cell qs)
    && list_all (λ q. nat_le (preimage_sum (around t (pointed_cell q)) t) most_preimages) qs

-- the grid alone
abbrev pub blank : ℕ → ℕ → Tiles
blank w h = record { width = w; height = h; obstructions = []; requirements = [] }

-- the kind that places some patterns in a direction
abbrev pub place_kind : (List PointedPattern × Direction) → Kind
place_kind p = kind.Place p.0 p.1

-- which preimages are sought: those whose pointed point is in the middle cell, or lies farther in a direction
abbrev pub is_sought : Sought → Cell → Cell → Bool
is_sought sought.Middle m c = cell_eq m c
is_sought (sought.Beyond d) m c = is_beyond d m c

-- the point at a cell, where the cell is another one on a line of m
abbrev pub is_beside : Cell → Cell → Bool
is_beside m c = shares_line c m && not (cell_eq c m)

-- the points at the n lowest cells of a column that are other cells on lines of m
abbrev pub beside_in : Cell → ℕ → ℕ → List (List Point)
beside_in m x n = map point_at (filter (is_beside m) (map (λ y. record { x = x; y = y }) (range_with_len 0 n)))

-- the same in the first columns
abbrev pub beside_below : Cell → ℕ → ℕ → List (List Point)
beside_below m h n = flat_map (λ x. beside_in m x h) (range_with_len 0 n)

-- ---- The placements that are tried
-- the point at a cell, pointed to
abbrev pub cell_point : Cell → PointedPattern
cell_point c = record { pattern = point_at c; index = 0 }

-- those of some placements that apply
abbrev pub applying : Tiles → List (List PointedPattern × Direction) → List Kind
applying t placements = filter (applies t) (map place_kind placements)

-- the placements of some patterns in two directions, where there is a pattern
abbrev pub in_both : Direction → Direction → List PointedPattern → List (List PointedPattern × Direction)
in_both d e qs = if is_nil qs then [] else ((qs, d) ∷ (qs, e) ∷ [])

-- the placements of a pattern in each direction
abbrev pub in_all : PointedPattern → List (List PointedPattern × Direction)
in_all q = map (λ d. (q ∷ [], d)) (North ∷ South ∷ East ∷ West ∷ [])

abbrev pub kinds_in_all : Tiles → List PointedPattern → List Kind
kinds_in_all t qs = applying t (flat_map in_all qs)

-- a pattern pointed at each of its places
abbrev pub places_of : List Point → List PointedPattern
places_of g = map (λ index. record { pattern = g; index = index }) (numbers_below (length g))

-- the one pattern of a list, where it has one or two points
abbrev pub short_single : List (List Point) → List (List Point)
short_single (g ∷ []) = if (length g == 1 || length g == 2) then g ∷ [] else []
short_single _ = []
