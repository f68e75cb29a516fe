-- Where a kind of rule applies.
use Rattle.std.specs.Prelude.{ℕ, Bool, true, not, ◌&&◌, ◌||◌, ◌==◌, ◌+◌, nat_lt, nat_le, List, [], ◌∷◌, ◌++◌, map, filter, flat_map, length, sum_by, if◌then◌else◌}
use Rattle.std.specs.List.{list_all, list_any}
use Rattle.std.specs.Cmp.Lexicographic.{pointwise, slice_cmp}
use Rattle.gridded.specs.declared.axis.Axis.{Axis}
use Rattle.gridded.specs.declared.axis.Axis.TheVariants as axis
use Rattle.gridded.specs.declared.cell.Cell.{Cell}
use Rattle.gridded.specs.Axes.{line_of, shares_line}
use Rattle.gridded.specs.CellSets.{is_among as has_cell}
use Rattle.gridded.specs.Grids.{Point}
use Rattle.gridded.specs.Orders.{cell_eq, cell_cmp, gridded_eq, gridded_cmp}
use Rattle.sequences.specs.Ascending.{in_order}
use Rattle.tiling_core.specs.Tiles.{Tiles}
use Rattle.tiling_core.specs.Measures.{weight}
use Rattle.gridded.specs.Small.{rising, falling}
use Rattle.gridded.specs.Parts.{lies_in}
use Rattle.tiling_core.specs.Patterns.{forbids, active_cells}
use Rattle.tiling_core.specs.Roots.{unit_tiling, point_tiling}
use Rattle.tiling_core.specs.Same.{tiles_eq}
use Rattle.coord_maps.specs.declared.grid_map.GridMap.{GridMap}
use Rattle.coord_maps.specs.Preimages.{preimages}
use Rattle.emptiness.specs.Inferable.{has_no_member, is_inferable}
use Rattle.rule_kinds.specs.Lines.{lines, in_grid, active_on}
use Rattle.rule_kinds.specs.Pointeds.{PointedPattern}
use Rattle.rule_kinds.specs.declared.kind.Direction.{Direction}
use Rattle.rule_kinds.specs.declared.kind.Kind.{Kind}
use Rattle.rule_kinds.specs.declared.kind.Kind.TheVariants as kind
use Rattle.rule_kinds.specs.Kinds.{pointed_cell, axis_of}
use Rattle.rule_kinds.specs.Children.{around, halved, patterns_pointed}
use Rattle.lists.specs.Members.{is_nil}

-- the lists, one after another
abbrev pub all_of : {X : Type 0} → List (List X) → List X
all_of lists = flat_map (λ xs. xs) lists

-- ---- preimages
abbrev pub preimages_in : GridMap → List (List Point) → ℕ
preimages_in m patterns = sum_by (λ g. length (preimages m g)) patterns

-- the number of preimages of all obstructions and all list members
abbrev pub preimage_sum : GridMap → Tiles → ℕ
preimage_sum m t = preimages_in m (t.obstructions ++ all_of t.requirements)

abbrev pub most_preimages : ℕ
most_preimages = 131072

-- ---- Place
abbrev pub all_distinct : List Cell → Bool
all_distinct [] = true
all_distinct (c ∷ cells) = not (has_cell cells c) && all_distinct cells

abbrev pub on_one_line : Axis → List Cell → Bool
on_one_line a [] = true
on_one_line a (c ∷ cells) = list_all (λ d. line_of a c == line_of a d) cells

abbrev pub can_place : Tiles → List PointedPattern → Direction → Bool
can_place t qs d =
    nat_le 1 (length qs) && nat_le (length qs) 8 && nat_le t.width 6 && nat_le t.height 6 && list_all (in_grid t) (patterns_pointed qs)
    && all_distinct (map pointed_cell qs) && on_one_line (axis_of d) (map pointed_cell qs)
    && list_all (λ q. nat_le (preimage_sum (around t (pointed_cell q)) t) most_preimages) qs

-- ---- RowCut and ColumnCut
-- the pattern that has a point of u before a point of l: below it for a row, left of it for a column
abbrev pub before : Axis → Cell → Cell → List Point
before axis.Row u l = if nat_lt u.x l.x then rising u l else falling l u
before axis.Column u l = if nat_lt u.y l.y then rising u l else falling u l

-- whether the points of the set lie before those of the line's other active cells
abbrev pub comes_first : Axis → Tiles → ℕ → List Cell → Bool
comes_first a t i first = list_all (λ l. list_all (λ u. has_cell first u || forbids t (before a u l)) (active_on a i t)) first

abbrev pub is_proper_part : List Cell → List Cell → Bool
is_proper_part part whole = not (is_nil part) && list_all (has_cell whole) part && not (list_all (has_cell part) whole)

abbrev pub can_cut : Axis → Tiles → ℕ → List Cell → Bool
can_cut a t i first =
    nat_le (lines a t) 7 && nat_lt i (lines a t) && is_proper_part first (active_on a i t) && comes_first a t i first && nat_le (preimage_sum (halved a t i) t) most_preimages

-- ---- Factor
-- what must stay together: each obstruction alone, but for the point at an inactive cell, and each list
abbrev pub bundles : Tiles → List (List (List Point))
bundles t = map (λ g. g ∷ []) (filter (λ g. not (length g == 1)) t.obstructions) ++ t.requirements

-- whether the sets share out the cells, in the order of their least cells
abbrev pub shares_out : List (List Cell) → List Cell → Bool
shares_out sets cells =
    not (list_any is_nil sets) && pointwise cell_eq (in_order cell_cmp (all_of sets)) cells && length (all_of sets) == length cells && pointwise (pointwise cell_eq) (in_order (slice_cmp cell_cmp) sets) sets

abbrev pub is_whole : List (List Point) → Bool
is_whole bundle = not (is_nil bundle) && not (list_any is_nil bundle)

-- whether cells of one line, and the points of one bundle, share a set
abbrev pub keeps_together : Tiles → List (List Cell) → Bool
keeps_together t sets =
    list_all (λ c. list_all (λ d. not (shares_line c d) || list_any (λ set. has_cell set c && has_cell set d) sets) (active_cells t)) (active_cells t)
    && list_all (λ bundle. is_whole bundle && list_any (λ set. list_all (lies_in (has_cell set)) bundle) sets) (bundles t)

abbrev pub is_factoring : Tiles → List (List Cell) → Bool
is_factoring t sets = shares_out sets (active_cells t) && keeps_together t sets

-- ---- Infer
abbrev pub ascends : List (List Point) → Bool
ascends patterns = pointwise gridded_eq (in_order gridded_cmp patterns) patterns

-- ---- each kind
unfoldable pub applies : Tiles → Kind → Bool
applies t kind.Unit = tiles_eq t unit_tiling
applies t kind.Point = tiles_eq t point_tiling
applies t kind.Void = nat_le (weight t) 6 && has_no_member t
applies t (kind.Insert r) = not (is_nil r) && in_grid t r
applies t (kind.Place qs d) = can_place t qs d
applies t (kind.RowCut y set) = can_cut axis.Row t y set
applies t (kind.ColumnCut x set) = can_cut axis.Column t x set
applies t (kind.Factor sets) = nat_le 2 (length sets) && is_factoring t sets
applies t (kind.Infer patterns) = not (is_nil patterns) && ascends patterns && nat_le (weight t) 4 && list_all (is_inferable t) patterns
