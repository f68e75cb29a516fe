-- Preimages lie in the new grid.
use Rattle.std.proofs.Common.{◌≡◌, ℕ, true, List, [], ◌∷◌, length, refl, sym, subst, arith}
use Rattle.std.specs.Prelude.{◌&&◌, map, nat_lt, All}
use Rattle.std.specs.List.{range_with_len, AllByRecursion}
use Rattle.std.proofs.lemmas.Bool.Decides.{nat_tests}
use Rattle.std.proofs.lemmas.List.Elements.{All-from_recursion}
use Rattle.std.proofs.lemmas.Bool.{and_from}
use Rattle.lists.proofs.Members.{each_in, from_IsIn-map, from_IsIn-filter, from_IsIn-flat_map}
use Rattle.lists.specs.Members.{IsIn}
use Rattle.lists.specs.Words.{words}
use Rattle.lists.proofs.Ranges.{IsIn-range_with_len}
use Rattle.lists.proofs.Words.{from_IsIn-words}
use Rattle.gridded.specs.Grids.{Point, cells_in, points_in, gridded_of, is_gridded}
use Rattle.gridded.specs.Orders.{gridded_eq}
use Rattle.gridded.specs.Places.{fits_grid}
use Rattle.tiling_core.specs.Tiles.{IsInGrid}
use Rattle.coord_maps.specs.declared.grid_map.GridMap.{GridMap}
use Rattle.coord_maps.specs.LineMaps.{new_lines}
use Rattle.coord_maps.specs.GridMaps.{collapse, fits_new}
use Rattle.coord_maps.specs.Preimages.{preimages}
use Rattle.coord_maps.specs.Stretches.{preimages_of, each_preimages_of}
use Rattle.coord_maps.proofs.Runs.{cell_at}

point_fits : (w h n : ℕ) (p : Point) → IsIn p (points_in w h n) → (nat_lt p.cell.x w && nat_lt p.cell.y h) ≡ true
point_fits w h n p k =
    let at = from_IsIn-flat_map (λ (l : ℕ). map (λ c. record { letter = l; cell = c }) (cells_in w h)) (range_with_len 0 n) k in
    let of_cell = from_IsIn-map {Y = Point} (λ c. record { letter = at.0; cell = c }) (cells_in w h) at.2 in
    let column = from_IsIn-flat_map (λ (x : ℕ). map (cell_at x) (range_with_len 0 h)) (range_with_len 0 w) of_cell.1 in
    let row = from_IsIn-map (cell_at column.0) (range_with_len 0 h) column.2 in
    let left = (IsIn-range_with_len 0 w column.0 column.1).1 in
    let low = (IsIn-range_with_len 0 h row.0 row.1).1 in
    let in_columns : nat_lt column.0 w ≡ true = grind (arith, nat_tests, left) in
    let in_rows : nat_lt row.0 h ≡ true = grind (arith, nat_tests, low) in
    rw (of_cell.2, row.2) (and_from (nat_lt column.0 w) (nat_lt row.0 h) in_columns in_rows)

points_fit : (w h n : ℕ) (g : List Point) → AllByRecursion (λ p. IsIn p (points_in w h n)) g → fits_grid w h g ≡ true
points_fit w h n [] k = refl
points_fit w h n (p ∷ g) k = and_from _ _ (point_fits w h n p k.0) (points_fit w h n g k.1)

pub preimage_fits : (m : GridMap) (g h : List Point) → IsIn h (preimages m g) → fits_new m h ≡ true
preimage_fits m g h k =
    let a = from_IsIn-filter (λ h. gridded_eq (collapse m h) g) (gridded_of (new_lines m.columns) (new_lines m.rows) (length g)) k in
    let b = from_IsIn-filter is_gridded (words (points_in (new_lines m.columns) (new_lines m.rows) (length g)) (length g)) a.0 in
    points_fit (new_lines m.columns) (new_lines m.rows) (length g) h (from_IsIn-words (points_in (new_lines m.columns) (new_lines m.rows) (length g)) (length g) h b.0).0

pub preimages_fit : (m : GridMap) (patterns : List (List Point)) → IsInGrid (new_lines m.columns) (new_lines m.rows) (preimages_of m patterns)
preimages_fit m patterns =
    All-from_recursion (λ h. fits_new m h ≡ true) (preimages_of m patterns)
    (each_in (λ h. fits_new m h ≡ true) (preimages_of m patterns) (λ h k. let at = from_IsIn-flat_map (preimages m) patterns k in preimage_fits m at.0 h at.2))

pub each_preimages_fit : (m : GridMap) (lists : List (List (List Point))) → All (λ patterns. IsInGrid (new_lines m.columns) (new_lines m.rows) patterns) (each_preimages_of m lists)
each_preimages_fit m lists =
    All-from_recursion (λ patterns. IsInGrid (new_lines m.columns) (new_lines m.rows) patterns) (each_preimages_of m lists)
    (each_in (λ patterns. IsInGrid (new_lines m.columns) (new_lines m.rows) patterns) (each_preimages_of m lists)
    (λ patterns k. let at = from_IsIn-map (preimages_of m) lists k in subst (λ ps. IsInGrid (new_lines m.columns) (new_lines m.rows) ps) (sym at.2) (preimages_fit m at.0)))
