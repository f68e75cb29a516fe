-- Tests of lengths and patterns: a tiling without members, an inferable pattern, and all of them.
use Rattle.std.specs.Prelude.{ℕ, Bool, not, ◌&&◌, ◌==◌, ◌+◌, nat_le, List, [], ◌∷◌, ◌++◌, filter, length}
use Rattle.std.specs.List.{list_all, list_any, range_with_len}
use Rattle.gridded.specs.Grids.{Point, holds, gridded_of}
use Rattle.gridded.specs.Orders.{cells_of, gridded_cmp}
use Rattle.gridded.specs.Places.{fits_grid}
use Rattle.gridded.specs.Small.{point_at}
use Rattle.sequences.specs.Ascending.{in_order}
use Rattle.tiling_core.specs.Tiles.{Tiles, count}
use Rattle.tiling_core.specs.Measures.{weight}
use Rattle.tiling_core.specs.Patterns.{also, forbids}

-- no member of a length up to the weight, and so none at all
abbrev pub has_no_member : Tiles → Bool
has_no_member t = list_all (λ n. count t n == 0) (range_with_len 0 (weight t + 1))

-- a pattern of one or two points in active cells that holds no obstruction
abbrev pub could_be_inferred : Tiles → List Point → Bool
could_be_inferred t g =
    nat_le 1 (length g) && nat_le (length g) 2 && fits_grid t.width t.height g && list_all (λ c. not (forbids t (point_at c))) (cells_of g) && not (list_any (holds g) t.obstructions)

-- one that no member holds
abbrev pub is_inferable : Tiles → List Point → Bool
is_inferable t g = could_be_inferred t g && has_no_member (also t [] ((g ∷ []) ∷ []))

-- all of them, ascending
abbrev pub inferred : Tiles → List (List Point)
inferred t = in_order gridded_cmp (filter (is_inferable t) (gridded_of t.width t.height 1 ++ gridded_of t.width t.height 2))
