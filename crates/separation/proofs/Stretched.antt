-- A stretched tiling with further obstructions is put in order once.
use Rattle.std.proofs.Common.{◌≡◌, ℕ, List, [], ◌++◌, sym, ap, ◌∙◌, ⊎_elim, arith}
use Rattle.std.specs.Prelude.{map, All}
use Rattle.std.specs.List.Sorted.{IsStrictlySortedBy}
use Rattle.std.specs.Cmp.Lexicographic.{slice_cmp}
use Rattle.lists.specs.Members.{IsIn}
use Rattle.lists.proofs.Members.{is_in, contained, of_all, all_in, from_IsIn-map, IsIn-append_left, IsIn-append_right, IsIn-append_cases}
use Rattle.gridded.specs.declared.axis.Axis.{Axis}
use Rattle.gridded.specs.declared.axis.Axis.TheVariants.{Column, Row}
use Rattle.gridded.specs.declared.cell.Cell.{Cell}
use Rattle.gridded.specs.Grids.{Point}
use Rattle.gridded.specs.Orders.{gridded_cmp}
use Rattle.gridded.specs.OrderLaws.{gridded_total, gridded_exact}
use Rattle.gridded.specs.Small.{point_at}
use Rattle.sequences.specs.Ascending.{in_order}
use Rattle.sequences.proofs.InOrder.{in_order-is, in_order-same_items}
use Rattle.tiling_core.specs.Tiles.{Tiles, IsInGrid, tiling_of}
use Rattle.tiling_core.specs.Patterns.{also}
use Rattle.tiling_core.proofs.Joined.{IsInGrid-append}
use Rattle.tiling_core.proofs.Kept.{patterns_ascend, lists_ascend, All-lists}
use Rattle.steps.proofs.Shrinks.{ordered_lists}
use Rattle.coord_maps.specs.declared.grid_map.GridMap.{GridMap}
use Rattle.coord_maps.specs.LineMaps.{new_lines}
use Rattle.coord_maps.specs.Stretches.{preimages_of, each_preimages_of, stretch}
use Rattle.coord_maps.proofs.Insides.{preimages_fit, each_preimages_fit}
use Rattle.rule_kinds.specs.Lines.{active_on}
use Rattle.rule_kinds.specs.Children.{halved, barred_half, cut}
use Rattle.separation.specs.Building.{wider}
use Rattle.separation.proofs.Halves.{halves_fit}

-- ---- put in order once
to_ordered : (patterns : List (List Point)) (g : List Point) → IsIn g patterns → IsIn g (in_order gridded_cmp patterns)
to_ordered patterns g m = is_in (in_order gridded_cmp patterns) g ((in_order-same_items gridded_cmp gridded_total gridded_exact patterns g).0 (contained m))

from_ordered : (patterns : List (List Point)) (g : List Point) → IsIn g (in_order gridded_cmp patterns) → IsIn g patterns
from_ordered patterns g m = is_in patterns g ((in_order-same_items gridded_cmp gridded_total gridded_exact patterns g).1 (contained m))

ordered_once : (points patterns : List (List Point)) → in_order gridded_cmp (points ++ patterns) ≡ in_order gridded_cmp (points ++ in_order gridded_cmp patterns)
ordered_once points patterns =
    in_order-is gridded_cmp gridded_total gridded_exact (in_order gridded_cmp (points ++ patterns)) (points ++ in_order gridded_cmp patterns) (record {
      ascends = patterns_ascend (points ++ patterns);
      keeps = λ g h. contained (to_ordered (points ++ patterns) g (⊎_elim {C = IsIn g (points ++ patterns)} (λ m. IsIn-append_left patterns m) (λ m. IsIn-append_right points (from_ordered patterns g m)) (IsIn-append_cases points (in_order gridded_cmp patterns) (is_in (points ++ in_order gridded_cmp patterns) g h))));
      adds_none = λ g h. contained (⊎_elim {C = IsIn g (points ++ in_order gridded_cmp patterns)} (λ m. IsIn-append_left (in_order gridded_cmp patterns) m) (λ m. IsIn-append_right points (to_ordered patterns g m)) (IsIn-append_cases points patterns (from_ordered (points ++ patterns) g (is_in (in_order gridded_cmp (points ++ patterns)) g h))));
    })

lists_once : (lists : List (List (List Point))) → in_order (slice_cmp gridded_cmp) (map (λ patterns. in_order gridded_cmp patterns) lists) ≡ in_order (slice_cmp gridded_cmp) (map (λ patterns. in_order gridded_cmp patterns) (in_order (slice_cmp gridded_cmp) (map (λ patterns. in_order gridded_cmp patterns) lists)))
lists_once lists =
    let each = map (λ patterns. in_order gridded_cmp patterns) lists in
    sym (ordered_lists (in_order (slice_cmp gridded_cmp) each)
    (λ a m. of_all (λ patterns. IsStrictlySortedBy gridded_cmp patterns) (All-lists (λ patterns. IsStrictlySortedBy gridded_cmp patterns) each
    (all_in (λ patterns. IsStrictlySortedBy gridded_cmp patterns) each (λ b n. let k = from_IsIn-map (λ (patterns : List (List Point)). in_order gridded_cmp patterns) lists n in rw k.2 (patterns_ascend k.0)))) m)
    (lists_ascend each))

stretched_once : (m : GridMap) (t : Tiles) (points : List (List Point)) → tiling_of (new_lines m.columns) (new_lines m.rows) (points ++ preimages_of m t.obstructions) (each_preimages_of m t.requirements) ≡ also (stretch m t) points []
stretched_once m t points =
    let o = ordered_once points (preimages_of m t.obstructions) in
    let r = lists_once (each_preimages_of m t.requirements) in
    λ i. record { width = new_lines m.columns; height = new_lines m.rows; obstructions = o i; requirements = r i }

-- ---- the sides
wide_columns : (a : Axis) (t : Tiles) (i : ℕ) → (wider a t).x ≡ new_lines (halved a t i).columns
wide_columns Column t i = omega arith
wide_columns Row t i = omega arith

wide_rows : (a : Axis) (t : Tiles) (i : ℕ) → (wider a t).y ≡ new_lines (halved a t i).rows
wide_rows Column t i = omega arith
wide_rows Row t i = omega arith

-- ---- what the code makes
module _ (a : Axis) (t : Tiles) (i : ℕ) (set : List Cell) (wide : Cell) (points all : List (List Point)) (lists : List (List (List Point))) (w : wide ≡ wider a t)
    (p : points ≡ map (λ c. point_at (barred_half a set c)) (active_on a i t)) (o : all ≡ points ++ preimages_of (halved a t i) t.obstructions) (l : lists ≡ each_preimages_of (halved a t i) t.requirements) where
  pub obstructions_in : IsInGrid wide.x wide.y all
  obstructions_in = rw (o, p, w, wide_columns a t i, wide_rows a t i) (IsInGrid-append (new_lines (halved a t i).columns) (new_lines (halved a t i).rows) (map (λ c. point_at (barred_half a set c)) (active_on a i t)) (preimages_of (halved a t i) t.obstructions)
      (halves_fit a t i set) (preimages_fit (halved a t i) t.obstructions))

  pub requirements_in : All (λ patterns. IsInGrid wide.x wide.y patterns) lists
  requirements_in = rw (l, w, wide_columns a t i, wide_rows a t i) (each_preimages_fit (halved a t i) t.requirements)

  pub is_cut : tiling_of wide.x wide.y all lists ≡ cut a t i set
  is_cut =
      (λ j. tiling_of (w j).x (w j).y (o j) (l j)) ∙ (λ j. tiling_of (wide_columns a t i j) (wide_rows a t i j) (points ++ preimages_of (halved a t i) t.obstructions) (each_preimages_of (halved a t i) t.requirements))
      ∙ ap (λ ps. tiling_of (new_lines (halved a t i).columns) (new_lines (halved a t i).rows) (ps ++ preimages_of (halved a t i) t.obstructions) (each_preimages_of (halved a t i) t.requirements)) p
      ∙ stretched_once (halved a t i) t (map (λ c. point_at (barred_half a set c)) (active_on a i t))
