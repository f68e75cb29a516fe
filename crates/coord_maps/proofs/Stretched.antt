-- The members of a stretched tiling are those that collapse to members.
use Rattle.std.proofs.Common.{◌≡◌, Bool, true, List, [], ◌∷◌, refl, sym, ap, ◌∙◌}
use Rattle.std.specs.Prelude.{not, map, All}
use Rattle.std.specs.List.{list_all, list_any, AllByRecursion}
use Rattle.std.specs.Cmp.Lexicographic.{slice_cmp, lists_total}
use Rattle.std.proofs.lemmas.List.Elements.{recursion_from_All}
use Rattle.std.proofs.lemmas.List.Folds.{list_any-append}
use Rattle.lists.proofs.Tests.{some_passes, which_passes, none-not_any, same_test}
use Rattle.patterns.proofs.Occurrences.{occurs_decides}
use Rattle.gridded.specs.Grids.{Point, same_cell, letter_of, is_consistent, IsGridded, holds}
use Rattle.gridded.specs.Orders.{gridded_cmp}
use Rattle.gridded.specs.OrderLaws.{gridded_total, gridded_exact}
use Rattle.gridded.specs.Laws.{GriddedAreListed}
use Rattle.sequences.specs.Ascending.{in_order}
use Rattle.sequences.proofs.InOrder.{list_all-in_order, list_any-in_order}
use Rattle.tiling_core.specs.Tiles.{Tiles, IsTiling, is_member}
use Rattle.tiling_core.proofs.Kept.{lists_exact}
use Rattle.gridded.specs.Places.{fits_grid}
use Rattle.coord_maps.specs.declared.grid_map.GridMap.{GridMap}
use Rattle.coord_maps.specs.GridMaps.{IsGridMap, collapse, fits_new}
use Rattle.coord_maps.specs.Preimages.{preimages}
use Rattle.coord_maps.specs.Stretches.{preimages_of, each_preimages_of, stretch, IsMapOf}
use Rattle.coord_maps.specs.Laws.{StretchKeepsMembers}
use Rattle.coord_maps.proofs.Memberships.{collapse_fits}
use Rattle.coord_maps.proofs.Holding.{collapse_held, preimage_held}

-- ---- tests of all items, and of some item
-- ---- the patterns, and then the lists
module _ (listed : GriddedAreListed) (m : GridMap) (h : List Point) (c : is_consistent h ≡ true) (i : fits_new m h ≡ true) where
  abbrev H : List Point → Bool
  H q = holds h q

  abbrev C : List Point → Bool
  C p = holds (collapse m h) p

  held_test : (p : List Point) → IsGridded p → list_any H (preimages m p) ≡ C p
  held_test p g = same_test (list_any H (preimages m p)) (C p)
      (λ e. let k = which_passes H (preimages m p) e in (occurs_decides letter_of same_cell (collapse m h) p).1 (collapse_held listed m h p (record { pattern = k.0; listed = k.1; held = (occurs_decides letter_of same_cell h k.0).0 k.2 })))
      (λ e. let k = preimage_held listed m h p g c i ((occurs_decides letter_of same_cell (collapse m h) p).0 e) in some_passes H k.listed ((occurs_decides letter_of same_cell h k.pattern).1 k.held))

  some_held : (patterns : List (List Point)) → AllByRecursion (λ p. IsGridded p) patterns → list_any H (preimages_of m patterns) ≡ list_any C patterns
  some_held [] g = refl
  some_held (p ∷ patterns) g = list_any-append H (preimages m p) (preimages_of m patterns) ∙ rw (held_test p g.0, some_held patterns g.1) refl

  none_held : (patterns : List (List Point)) → AllByRecursion (λ p. IsGridded p) patterns → list_all (λ q. not (H q)) (in_order gridded_cmp (preimages_of m patterns)) ≡ list_all (λ p. not (C p)) patterns
  none_held patterns g =
      list_all-in_order gridded_cmp gridded_total gridded_exact (λ q. not (H q)) (preimages_of m patterns)
      ∙ none-not_any H (preimages_of m patterns) ∙ ap not (some_held patterns g) ∙ sym (none-not_any C patterns)

  each_held : (lists : List (List (List Point))) → AllByRecursion (λ patterns. All (λ p. IsGridded p) patterns) lists
      → list_all (λ patterns. list_any H patterns) (map (λ patterns. in_order gridded_cmp patterns) (each_preimages_of m lists)) ≡ list_all (λ patterns. list_any C patterns) lists
  each_held [] g = refl
  each_held (patterns ∷ lists) g =
      let first = list_any-in_order gridded_cmp gridded_total gridded_exact H (preimages_of m patterns) ∙ some_held patterns (recursion_from_All (λ p. IsGridded p) patterns g.0) in
      rw (first, each_held lists g.1) refl

  pub stretched_members : (t : Tiles) → IsGridMap m → IsTiling t → IsMapOf m t → is_member (stretch m t) h ≡ is_member t (collapse m h)
  stretched_members t k g of_t =
      let fits : fits_grid t.width t.height (collapse m h) ≡ true = rw (of_t.columns, of_t.rows) at (collapse_fits m h k i) in
      let lists = list_all-in_order (slice_cmp gridded_cmp) (lists_total gridded_total) lists_exact (λ patterns. list_any H patterns) (map (λ patterns. in_order gridded_cmp patterns) (each_preimages_of m t.requirements))
      ∙ each_held t.requirements (recursion_from_All (λ patterns. All (λ p. IsGridded p) patterns) t.requirements g.requirements_gridded) in
      rw (i, fits, none_held t.obstructions (recursion_from_All (λ p. IsGridded p) t.obstructions g.obstructions_gridded), lists) refl

pub stretch_keeps_members : GriddedAreListed → StretchKeepsMembers
stretch_keeps_members listed m t h k g of_t c i = stretched_members listed m h c i t k g of_t
