-- What the preimages of a gridded permutation are.
use Rattle.std.proofs.Common.{◌≡◌, ℕ, ◌<◌, true, List, [], ◌∷◌, length, refl, sym, ap, ◌∙◌, subst, arith}
use Rattle.std.specs.Prelude.{◌&&◌, nat_lt}
use Rattle.std.specs.List.{AllByRecursion}
use Rattle.std.proofs.lemmas.Bool.Decides.{nat_tests}
use Rattle.std.proofs.lemmas.List.{length-map}
use Rattle.std.proofs.lemmas.Bool.{and_parts}
use Rattle.patterns.specs.Words.{has_no_repeats}
use Rattle.gridded.specs.Grids.{Point, gridded_of, IsGridded}
use Rattle.gridded.specs.Orders.{letters_of, cells_of, gridded_eq}
use Rattle.gridded.specs.OrderLaws.{gridded_eq_decides}
use Rattle.gridded.specs.Laws.{IsCellOf, GriddedAreListed, GriddedAreListedOnce}
use Rattle.gridded.specs.Places.{fits_grid}
use Rattle.coord_maps.specs.declared.grid_map.GridMap.{GridMap}
use Rattle.coord_maps.specs.LineMaps.{Cut, IsCut, new_lines, old_line}
use Rattle.coord_maps.specs.GridMaps.{IsGridMap, old_cell, collapse, fits_new, fits_old}
use Rattle.gridded.specs.Moved.{moved}
use Rattle.coord_maps.specs.Preimages.{preimages}
use Rattle.coord_maps.specs.Laws.{IsPreimage, PreimagesAreListed, PreimagesAreListedOnce, CollapseIsGridded}
use Rattle.gridded.proofs.Moved.{letters_moved}
use Rattle.gridded.proofs.Holding.{is_true}
use Rattle.coord_maps.proofs.Moves.{consistent_collapse}
use Rattle.coord_maps.proofs.Placed.{gridded_below}
use Rattle.coord_maps.proofs.Insides.{preimage_fits}
use Rattle.lists.specs.Members.{IsIn}
use Rattle.lists.proofs.Members.{IsIn-filter, from_IsIn-filter}
use Rattle.lists.proofs.Repeats.{NoRepeats-filter}

letters_below : (n : ℕ) (g : List Point) → AllByRecursion (λ (p : Point). p.letter < n) g → AllByRecursion (λ l. l < n) (letters_of g)
letters_below n [] k = tt
letters_below n (p ∷ g) k = (k.0, letters_below n g k.1)

cells_inside : (w h : ℕ) (g : List Point) → fits_grid w h g ≡ true → AllByRecursion (λ c. IsCellOf w h c) (cells_of g)
cells_inside w h [] e = tt
cells_inside w h (p ∷ g) e =
    let a = and_parts (nat_lt p.cell.x w && nat_lt p.cell.y h) (fits_grid w h g) e in
    let b = and_parts (nat_lt p.cell.x w) (nat_lt p.cell.y h) a.0 in
    ((grind (arith, nat_tests, b.0), grind (arith, nat_tests, b.1)), cells_inside w h g a.1)

pub preimage_is_listed : GriddedAreListed → (m : GridMap) (g h : List Point) → IsGridded g → IsPreimage m g h → IsIn h (preimages m g)
preimage_is_listed listed m g h k p =
    let letters : letters_of h ≡ letters_of g = sym (letters_moved (old_cell m) h) ∙ ap letters_of p.collapses in
    IsIn-filter (λ r. gridded_eq (collapse m r) g) ((listed (new_lines m.columns) (new_lines m.rows) (length g) h).1 (record {
      as_long = sym (length-map h (moved (old_cell m))) ∙ ap (λ r. length r) p.collapses;
      below = subst (λ ls. AllByRecursion (λ l. l < length g) ls) (sym letters) (letters_below (length g) g (gridded_below g k));
      distinct = ap has_no_repeats letters ∙ is_true _ k.distinct;
      consistent = p.consistent;
      in_grid = cells_inside (new_lines m.columns) (new_lines m.rows) h p.inside;
    })) ((gridded_eq_decides (collapse m h) g).1 p.collapses)

pub listed_is_preimage : GriddedAreListed → (m : GridMap) (g h : List Point) → IsIn h (preimages m g) → IsPreimage m g h
listed_is_preimage listed m g h k =
    let a = from_IsIn-filter (λ r. gridded_eq (collapse m r) g) (gridded_of (new_lines m.columns) (new_lines m.rows) (length g)) k in
    record {
      collapses = (gridded_eq_decides (collapse m h) g).0 a.1;
      consistent = ((listed (new_lines m.columns) (new_lines m.rows) (length g) h).0 a.0).consistent;
      inside = preimage_fits m g h k;
    }

pub preimages_are_listed : GriddedAreListed → PreimagesAreListed
preimages_are_listed listed m g h k = (listed_is_preimage listed m g h, preimage_is_listed listed m g h k)

pub preimages_are_listed_once : GriddedAreListedOnce → PreimagesAreListedOnce
preimages_are_listed_once once m g = NoRepeats-filter (λ h. gridded_eq (collapse m h) g) (once (new_lines m.columns) (new_lines m.rows) (length g))

-- ---- the collapse lies in the old grid
line_inside : (m : Cut) (new : ℕ) → IsCut m → new < new_lines m → old_line m new < m.lines
line_inside m new k h = let a = k.some_parts in let b = k.inside in grind (arith, nat_tests)

cells_collapsed : (m : GridMap) (h : List Point) → IsGridMap m → AllByRecursion (λ c. IsCellOf (new_lines m.columns) (new_lines m.rows) c) (cells_of h) → AllByRecursion (λ c. IsCellOf m.columns.lines m.rows.lines c) (cells_of (collapse m h))
cells_collapsed m [] k i = tt
cells_collapsed m (p ∷ h) k i = ((line_inside m.columns p.cell.x k.columns i.0.0, line_inside m.rows p.cell.y k.rows i.0.1), cells_collapsed m h k i.1)

pub collapse_is_gridded : CollapseIsGridded
collapse_is_gridded m n h k g =
    let letters = sym (letters_moved (old_cell m) h) in
    record {
      as_long = length-map h (moved (old_cell m)) ∙ g.as_long;
      below = subst (λ ls. AllByRecursion (λ l. l < n) ls) letters g.below;
      distinct = ap has_no_repeats (sym letters) ∙ g.distinct;
      consistent = consistent_collapse m h g.consistent;
      in_grid = cells_collapsed m h k g.in_grid;
    }

fits_again : (w h : ℕ) (g : List Point) → AllByRecursion (λ c. IsCellOf w h c) (cells_of g) → fits_grid w h g ≡ true
fits_again w h [] i = refl
fits_again w h (p ∷ g) i =
    let left : nat_lt p.cell.x w ≡ true = grind (arith, nat_tests, i.0.0) in
    let low : nat_lt p.cell.y h ≡ true = grind (arith, nat_tests, i.0.1) in
    rw (left, low) (fits_again w h g i.1)

pub collapse_fits : (m : GridMap) (h : List Point) → IsGridMap m → fits_new m h ≡ true → fits_old m (collapse m h) ≡ true
collapse_fits m h k e = fits_again m.columns.lines m.rows.lines (collapse m h) (cells_collapsed m h k (cells_inside (new_lines m.columns) (new_lines m.rows) h e))
