-- The patterns of a child lie in its grid, and make it.
use Rattle.std.proofs.Common.{◌≡◌, ℕ, ◌+◌, ◌-◌, Bool, true, List, [], ◌∷◌, ◌++◌, refl, sym, ap, ◌∙◌, subst, arith}
use Rattle.std.specs.Prelude.{filter, flat_map, nat_lt, All, ◌&&◌, not}
use Rattle.std.proofs.lemmas.Bool.Decides.{nat_tests}
use Rattle.std.proofs.lemmas.List.Elements.{All-from_recursion}
use Rattle.lists.specs.Members.{IsIn}
use Rattle.lists.proofs.Members.{each_image, all_in, from_IsIn-filter, from_IsIn-flat_map}
use Rattle.gridded.specs.declared.cell.Cell.{Cell}
use Rattle.gridded.specs.Axes.{shares_line}
use Rattle.gridded.specs.Grids.{Point, cells_in}
use Rattle.gridded.specs.Laws.{IsCellOf}
use Rattle.gridded.specs.Orders.{cell_eq}
use Rattle.gridded.specs.Places.{fits_grid}
use Rattle.gridded.specs.Small.{point_at, rising, falling}
use Rattle.gridded.proofs.GriddedLists.{from_IsIn-cells_in}
use Rattle.tiling_core.specs.Tiles.{Tiles, IsInGrid, tiling_of}
use Rattle.tiling_core.specs.Patterns.{also}
use Rattle.tiling_core.proofs.Joined.{IsInGrid-append, IsInGrid-single, lists_in-append}
use Rattle.coord_maps.specs.declared.grid_map.GridMap.{GridMap}
use Rattle.coord_maps.specs.LineMaps.{new_lines}
use Rattle.coord_maps.specs.Preimages.{preimages}
use Rattle.coord_maps.specs.Stretches.{preimages_of, each_preimages_of}
use Rattle.coord_maps.proofs.Insides.{preimage_fits, preimages_fit, each_preimages_fit}
use Rattle.rule_kinds.specs.Pointeds.{PointedPattern}
use Rattle.rule_kinds.specs.declared.kind.Direction.{Direction}
use Rattle.rule_kinds.specs.Kinds.{pointed_cell, point_of}
use Rattle.rule_kinds.specs.Children.{around, middle, middle_of, alone_in, lifts_pointed, is_beyond, placed}
use Rattle.placement.specs.Placing.{blank}
use Rattle.placement.proofs.OneSort.{also_at_once}

-- ---- the patterns as they are listed
abbrev pub child_obstructions : GridMap → Cell → Tiles → List PointedPattern → Direction → List (List Point)
child_obstructions o m t qs d = preimages_of o t.obstructions ++ (alone_in (blank (t.width + 2) (t.height + 2)) m ++ flat_map (lifts_pointed o (is_beyond d m)) qs)

abbrev pub child_lists : GridMap → Cell → Tiles → PointedPattern → List (List (List Point))
child_lists o m t q = (point_at m ∷ []) ∷ lifts_pointed o (cell_eq m) q ∷ each_preimages_of o t.requirements

wider : (n : ℕ) → n + 3 - 1 ≡ n + 2
wider n = omega arith

made_at_once : (w h v k : ℕ) (m : Cell) (obstructions farther : List (List Point)) (lists more : List (List (List Point))) → v ≡ w → k ≡ h
    → tiling_of w h (obstructions ++ (alone_in (blank w h) m ++ farther)) (more ++ lists) ≡ also (tiling_of v k obstructions lists) (alone_in (blank v k) m ++ farther) more
made_at_once w h v k m obstructions farther lists more e f =
    sym (also_at_once v k obstructions (alone_in (blank v k) m ++ farther) lists more ∙ (λ i. tiling_of (e i) (f i) (obstructions ++ (alone_in (blank (e i) (f i)) m ++ farther)) (more ++ lists)))

-- they make the child
pub child_made : (t : Tiles) (qs : List PointedPattern) (d : Direction) (q : PointedPattern)
    → tiling_of (t.width + 2) (t.height + 2) (child_obstructions (around t (pointed_cell q)) (middle_of q) t qs d) (child_lists (around t (pointed_cell q)) (middle_of q) t q) ≡ placed t qs d q
child_made t qs d q =
    made_at_once (t.width + 2) (t.height + 2) (t.width + 3 - 1) (t.height + 3 - 1) (middle_of q) (preimages_of (around t (pointed_cell q)) t.obstructions)
    (flat_map (lifts_pointed (around t (pointed_cell q)) (is_beyond d (middle_of q))) qs) (each_preimages_of (around t (pointed_cell q)) t.requirements)
    ((point_at (middle_of q) ∷ []) ∷ lifts_pointed (around t (pointed_cell q)) (cell_eq (middle_of q)) q ∷ []) (wider t.width) (wider t.height)

-- ---- they lie in the grid
point_fits : (w h : ℕ) (c : Cell) → IsCellOf w h c → fits_grid w h (point_at c) ≡ true
point_fits w h c k =
    let left : nat_lt c.x w ≡ true = grind (arith, nat_tests, k.0) in
    let low : nat_lt c.y h ≡ true = grind (arith, nat_tests, k.1) in
    rw (left, low) refl

pair_fits : (w h : ℕ) (c : Cell) → IsCellOf w h c → (fits_grid w h (rising c c) ≡ true) × (fits_grid w h (falling c c) ≡ true)
pair_fits w h c k =
    let left : nat_lt c.x w ≡ true = grind (arith, nat_tests, k.0) in
    let low : nat_lt c.y h ≡ true = grind (arith, nat_tests, k.1) in
    (rw (left, low) refl, rw (left, low) refl)

alone_fits : (w h : ℕ) (m : Cell) → IsCellOf w h m → IsInGrid w h (alone_in (blank w h) m)
alone_fits w h m k =
    let pair = pair_fits w h m k in
    All-from_recursion (λ g. fits_grid w h g ≡ true) (alone_in (blank w h) m) (
      pair.0,
      (
        pair.1,
        each_image (λ g. fits_grid w h g ≡ true) point_at (filter beside (cells_in w h))
            (λ c i. point_fits w h c (from_IsIn-cells_in w h c (from_IsIn-filter beside (cells_in w h) i).0)),
      ),
    )
  where
    beside : Cell → Bool
    beside c = shares_line c m && not (cell_eq c m)

lifted_fits : (o : GridMap) (test : Cell → Bool) (q : PointedPattern) (h : List Point) → IsIn h (lifts_pointed o test q) → fits_grid (new_lines o.columns) (new_lines o.rows) h ≡ true
lifted_fits o test q h i = preimage_fits o q.pattern h (from_IsIn-filter (λ g. test (point_of g q.index).cell) (preimages o q.pattern) i).0

-- the sides of the child
abbrev IsWider : GridMap → Tiles → Type 0
IsWider o t = (new_lines o.columns ≡ t.width + 2) × (new_lines o.rows ≡ t.height + 2)

same_grid : (v k w h : ℕ) (patterns : List (List Point)) → v ≡ w → k ≡ h → IsInGrid v k patterns → IsInGrid w h patterns
same_grid v k w h patterns e f i = subst (λ (n : ℕ). IsInGrid w n patterns) f (subst (λ (n : ℕ). IsInGrid n k patterns) e i)

lists_in_same_grid : (v k w h : ℕ) (lists : List (List (List Point))) → v ≡ w → k ≡ h → All (λ patterns. IsInGrid v k patterns) lists → All (λ patterns. IsInGrid w h patterns) lists
lists_in_same_grid v k w h lists e f i = subst (λ (n : ℕ). All (λ patterns. IsInGrid w n patterns) lists) f (subst (λ (n : ℕ). All (λ patterns. IsInGrid n k patterns) lists) e i)

obstructions_fit : (o : GridMap) (m : Cell) (t : Tiles) (qs : List PointedPattern) (d : Direction) → IsWider o t → IsCellOf (t.width + 2) (t.height + 2) m → IsInGrid (t.width + 2) (t.height + 2) (child_obstructions o m t qs d)
obstructions_fit o m t qs d wide k =
    let alone = alone_in (blank (t.width + 2) (t.height + 2)) m in
    let farther = flat_map (lifts_pointed o (is_beyond d m)) qs in
    let farther_fit = all_in (λ h. fits_grid (new_lines o.columns) (new_lines o.rows) h ≡ true) farther (λ h i. let at = from_IsIn-flat_map (lifts_pointed o (is_beyond d m)) qs i in lifted_fits o (is_beyond d m) at.0 h at.2) in
    IsInGrid-append (t.width + 2) (t.height + 2) (preimages_of o t.obstructions) (alone ++ farther)
    (same_grid (new_lines o.columns) (new_lines o.rows) (t.width + 2) (t.height + 2) (preimages_of o t.obstructions) wide.0 wide.1 (preimages_fit o t.obstructions))
    (IsInGrid-append (t.width + 2) (t.height + 2) alone farther (alone_fits (t.width + 2) (t.height + 2) m k)
    (same_grid (new_lines o.columns) (new_lines o.rows) (t.width + 2) (t.height + 2) farther wide.0 wide.1 farther_fit))

lists_fit : (o : GridMap) (m : Cell) (t : Tiles) (q : PointedPattern) → IsWider o t → IsCellOf (t.width + 2) (t.height + 2) m → All (λ patterns. IsInGrid (t.width + 2) (t.height + 2) patterns) (child_lists o m t q)
lists_fit o m t q wide k =
    let lifted = lifts_pointed o (cell_eq m) q in
    let lifted_fit = all_in (λ h. fits_grid (new_lines o.columns) (new_lines o.rows) h ≡ true) lifted (λ h i. lifted_fits o (cell_eq m) q h i) in
    lists_in-append (t.width + 2) (t.height + 2) ((point_at m ∷ []) ∷ lifted ∷ []) (each_preimages_of o t.requirements)
    (All-from_recursion (λ patterns. IsInGrid (t.width + 2) (t.height + 2) patterns) ((point_at m ∷ []) ∷ lifted ∷ [])
    (IsInGrid-single (t.width + 2) (t.height + 2) (point_at m) (point_fits (t.width + 2) (t.height + 2) m k), (same_grid (new_lines o.columns) (new_lines o.rows) (t.width + 2) (t.height + 2) lifted wide.0 wide.1 lifted_fit, tt)))
    (lists_in_same_grid (new_lines o.columns) (new_lines o.rows) (t.width + 2) (t.height + 2) (each_preimages_of o t.requirements) wide.0 wide.1 (each_preimages_fit o t.requirements))

middle_inside : (t : Tiles) (c : Cell) → IsCellOf t.width t.height c → IsCellOf (t.width + 2) (t.height + 2) (middle c)
middle_inside t c k = (omega (arith, k.0), omega (arith, k.1))

-- ---- the same of what the code has
pub record IsChild (t : Tiles) (qs : List PointedPattern) (d : Direction) (q : PointedPattern) (w h : ℕ) (o : GridMap) (c m : Cell) (obstructions : List (List Point)) (lists : List (List (List Point))) : Type 0 where
  pub width : w ≡ t.width
  pub height : h ≡ t.height
  pub cell : c ≡ pointed_cell q
  pub map : o ≡ around t c
  pub middle : m ≡ middle c
  pub forbidden : obstructions ≡ child_obstructions o m t qs d
  pub required : lists ≡ child_lists o m t q

module _ {t : Tiles} {qs : List PointedPattern} {d : Direction} {q : PointedPattern} {w h : ℕ} {o : GridMap} {c m : Cell} {obstructions : List (List Point)} {lists : List (List (List Point))} (k : IsChild t qs d q w h o c m obstructions lists) where
  pub map_is : o ≡ around t (pointed_cell q)
  map_is = k.map ∙ ap (λ (d : Cell). around t d) k.cell

  middle_is : m ≡ middle (pointed_cell q)
  middle_is = k.middle ∙ ap middle k.cell

  obstructions_are : obstructions ≡ child_obstructions (around t (pointed_cell q)) (middle (pointed_cell q)) t qs d
  obstructions_are = k.forbidden ∙ (λ i. child_obstructions (map_is i) (middle_is i) t qs d)

  lists_are : lists ≡ child_lists (around t (pointed_cell q)) (middle (pointed_cell q)) t q
  lists_are = k.required ∙ (λ i. child_lists (map_is i) (middle_is i) t q)

  middle_within : IsCellOf t.width t.height c → IsCellOf (t.width + 2) (t.height + 2) (middle (pointed_cell q))
  middle_within i = middle_inside t (pointed_cell q) (subst (λ (d : Cell). IsCellOf t.width t.height d) k.cell i)

  pub child_obstructions_fit : IsCellOf t.width t.height c → IsInGrid (w + 2) (h + 2) obstructions
  child_obstructions_fit i =
      subst (λ (patterns : List (List Point)). IsInGrid (w + 2) (h + 2) patterns) (sym obstructions_are)
      (same_grid (t.width + 2) (t.height + 2) (w + 2) (h + 2) (child_obstructions (around t (pointed_cell q)) (middle (pointed_cell q)) t qs d) (ap (λ n. n + 2) (sym k.width)) (ap (λ n. n + 2) (sym k.height))
      (obstructions_fit (around t (pointed_cell q)) (middle (pointed_cell q)) t qs d (wider t.width, wider t.height) (middle_within i)))

  pub child_lists_fit : IsCellOf t.width t.height c → All (λ patterns. IsInGrid (w + 2) (h + 2) patterns) lists
  child_lists_fit i =
      subst (λ (all : List (List (List Point))). All (λ patterns. IsInGrid (w + 2) (h + 2) patterns) all) (sym lists_are)
      (lists_in_same_grid (t.width + 2) (t.height + 2) (w + 2) (h + 2) (child_lists (around t (pointed_cell q)) (middle (pointed_cell q)) t q) (ap (λ n. n + 2) (sym k.width)) (ap (λ n. n + 2) (sym k.height))
      (lists_fit (around t (pointed_cell q)) (middle (pointed_cell q)) t q (wider t.width, wider t.height) (middle_within i)))

  pub child_is : tiling_of (w + 2) (h + 2) obstructions lists ≡ placed t qs d q
  child_is = (λ i. tiling_of (k.width i + 2) (k.height i + 2) (obstructions_are i) (lists_are i)) ∙ child_made t qs d q
