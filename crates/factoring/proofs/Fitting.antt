-- What a factor is built of lies in the grid.
use Rattle.std.proofs.Common.{◌≡◌, ◌<◌, ℕ, Bool, true, List, ◌++◌, sym, subst, ⊎_elim}
use Rattle.std.specs.Prelude.{not, map, All}
use Rattle.std.specs.List.{filter, list_all}
use Rattle.lists.specs.Members.{IsIn}
use Rattle.lists.proofs.Members.{all_in, of_all, from_IsIn-filter, from_IsIn-map, IsIn-append_cases, only_in}
use Rattle.gridded.specs.declared.cell.Cell.{Cell}
use Rattle.gridded.specs.CellSets.{is_among}
use Rattle.gridded.specs.Grids.{Point}
use Rattle.gridded.specs.Parts.{lies_in}
use Rattle.gridded.specs.Places.{fits_grid}
use Rattle.gridded.specs.Small.{point_at}
use Rattle.gridded.proofs.GriddedLists.{from_IsIn-cells_in}
use Rattle.tiling_core.specs.Tiles.{Tiles, IsTiling, IsInGrid}
use Rattle.tiling_core.proofs.Deciding.{fits_grid_decides}
use Rattle.rule_kinds.specs.Lines.{cells_of_grid}

abbrev points_outside : Tiles → List Cell → List (List Point)
points_outside t set = map point_at (filter (λ c. not (is_among set c)) (cells_of_grid t))

point_fits : (t : Tiles) (c : Cell) → IsIn c (cells_of_grid t) → fits_grid t.width t.height (point_at c) ≡ true
point_fits t c m = (fits_grid_decides t.width t.height (point_at c)).1 (λ p i. subst (λ (q : Point). (q.cell.x < t.width) × (q.cell.y < t.height)) (sym (only_in i)) (from_IsIn-cells_in t.width t.height c m))

all_in_grid : (t : Tiles) (set : List Cell) → IsTiling t → IsInGrid t.width t.height (points_outside t set ++ filter (lies_in (is_among set)) t.obstructions)
all_in_grid t set k = all_in (λ g. fits_grid t.width t.height g ≡ true) (points_outside t set ++ filter (lies_in (is_among set)) t.obstructions)
    (λ g m. ⊎_elim {C = fits_grid t.width t.height g ≡ true}
    (λ i. let c = from_IsIn-map point_at (filter (λ c. not (is_among set c)) (cells_of_grid t)) i in
    subst (λ (h : List Point). fits_grid t.width t.height h ≡ true) (sym c.2) (point_fits t c.0 (from_IsIn-filter (λ d. not (is_among set d)) (cells_of_grid t) c.1).0))
    (λ i. of_all (λ (h : List Point). fits_grid t.width t.height h ≡ true) k.obstructions_in (from_IsIn-filter (lies_in (is_among set)) t.obstructions i).0)
    (IsIn-append_cases (points_outside t set) (filter (lies_in (is_among set)) t.obstructions) m))

pub all_fit : (t : Tiles) (set : List Cell) → IsTiling t → (w h : ℕ) (points kept all : List (List Point)) → w ≡ t.width → h ≡ t.height → points ≡ points_outside t set → kept ≡ filter (lies_in (is_among set)) t.obstructions → all ≡ points ++ kept → IsInGrid w h all
all_fit t set k w h points kept all e f p q r = rw (e, f, r, p, q) (all_in_grid t set k)

abbrev lie_in : List Cell → List (List Point) → Bool
lie_in set patterns = list_all (lies_in (is_among set)) patterns

pub lists_fit : (t : Tiles) (set : List Cell) → IsTiling t → (w h : ℕ) (lists kept : List (List (List Point))) → w ≡ t.width → h ≡ t.height → lists ≡ t.requirements → kept ≡ filter (lie_in set) lists → All (λ patterns. IsInGrid w h patterns) kept
lists_fit t set k w h lists kept e f p q =
    rw (e, f, q, p) (all_in (λ patterns. IsInGrid t.width t.height patterns) (filter (lie_in set) t.requirements)
    (λ patterns m. of_all (λ (ps : List (List Point)). IsInGrid t.width t.height ps) k.requirements_in (from_IsIn-filter (lie_in set) t.requirements m).0))
