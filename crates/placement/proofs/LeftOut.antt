-- What is left out of a child holds the single point of a barred cell, which stays.
use Rattle.std.proofs.Common.{◌≡◌, ◌<◌, ◌≤◌, ◌+◌, ℕ, suc, Bool, true, false, List, [], ◌∷◌, ◌++◌, length, refl, sym, ap, ◌∙◌, subst, arith, length-append, inl, inr, ◌⊎◌}
use Rattle.std.specs.Prelude.{◌||◌, ◌&&◌, ◌==◌, not, filter, flat_map, All}
use Rattle.std.specs.List.{AllByRecursion}
use Rattle.std.specs.declared.cmp.Ordering.{Ordering}
use Rattle.std.specs.declared.cmp.Ordering.TheVariants.{Less, Equal, Greater}
use Rattle.std.specs.Ordering.{match_ordering}
use Rattle.std.proofs.lemmas.Bool.Decides.{nat_tests}
use Rattle.std.proofs.lemmas.Bool.{false_from_ne_true}
use Rattle.std.proofs.lemmas.List.Concat.{length-flat_map}
use Rattle.std.proofs.lemmas.List.Sums.{sum_by-append}
use Rattle.std.proofs.lemmas.List.Elements.{All-append, All-filter, All-from_recursion}
use Rattle.lists.specs.Members.{IsIn}
use Rattle.lists.specs.Members.IsIn.{later}
use Rattle.lists.proofs.Members.{none_in, of_all, all_in, IsIn-map, IsIn-filter, IsIn-append_left, IsIn-append_right, from_IsIn-map, from_IsIn-filter, from_IsIn-flat_map}
use Rattle.lists.proofs.Tests.{which_passes}
use Rattle.sequences.specs.Ascending.{in_order, insert_new}
use Rattle.gridded.specs.declared.cell.Cell.{Cell}
use Rattle.gridded.specs.Axes.{shares_line}
use Rattle.gridded.specs.CellSets.{is_among as has_cell, HasOneMore}
use Rattle.gridded.specs.Grids.{Point, IsGridded, cell_of, holds, gridded_of}
use Rattle.gridded.specs.Laws.{IsCellOf}
use Rattle.gridded.specs.Orders.{cell_eq, gridded_eq, gridded_cmp, letters_of, cells_of}
use Rattle.gridded.specs.OrderLaws.{gridded_eq_decides}
use Rattle.gridded.specs.Places.{touches, fits_grid}
use Rattle.gridded.specs.Small.{point_at}
use Rattle.gridded.proofs.CellSets.{is_among_decides}
use Rattle.gridded.proofs.GriddedLists.{IsIn-cells_in, from_IsIn-gridded_of}
use Rattle.gridded.proofs.Moved.{so_is_true}
use Rattle.gridded.proofs.Pairs.{holds_its_point}
use Rattle.tiling_core.specs.Tiles.{Tiles, IsTiling, IsInGrid, AreGridded, tiling_of}
use Rattle.tiling_core.proofs.Kept.{AreGridded-in_order, IsInGrid-in_order, patterns_ascend}
use Rattle.coord_maps.specs.declared.grid_map.GridMap.{GridMap}
use Rattle.coord_maps.specs.LineMaps.{new_lines}
use Rattle.coord_maps.specs.GridMaps.{collapse}
use Rattle.coord_maps.specs.Preimages.{preimages}
use Rattle.coord_maps.specs.Stretches.{preimages_of}
use Rattle.normal_form.specs.Thinned.{IsThinned}
use Rattle.normal_form.proofs.Thinning.{thinning}
use Rattle.rule_kinds.specs.Pointeds.{PointedPattern}
use Rattle.rule_kinds.specs.declared.kind.Direction.{Direction}
use Rattle.rule_kinds.specs.Kinds.{pointed_cell}
use Rattle.rule_kinds.specs.Children.{around, alone_in, lifts_pointed, is_beyond, placed}
use Rattle.rule_kinds.specs.Conditions.{preimage_sum, all_of}
use Rattle.placement.specs.Placing.{blank, is_beside}
use Rattle.placement.specs.Thinning.{AreBeside, stays, some_leave, other_obstructions, whole_obstructions, AreThinned}
use Rattle.placement.proofs.Lifted.{as_long}
use Rattle.placement.proofs.Leaving.{more_stay, more_leave}
use Rattle.placement.proofs.ChildParts.{IsChild, child_obstructions_fit, child_is, map_is}

-- ---- barred cells
pub none_beside : (w h : ℕ) (m : Cell) (set : List Cell) → set ≡ [] → AreBeside w h m set
none_beside w h m set e c i = absurd (none_in (subst (λ (cells : List Cell). IsIn c cells) e i))

pub one_more_beside : (w h : ℕ) (m cell : Cell) (set larger : List Cell) → HasOneMore set cell larger → is_beside m cell ≡ true → AreBeside w h m set → IsCellOf w h cell → AreBeside w h m larger
one_more_beside w h m cell set larger more beside are k c i = go ((more c).0 i)
  where
    go : (c ≡ cell) ⊎ IsIn c set → IsCellOf w h c × (is_beside m c ≡ true)
    go (inl e) = subst (λ (d : Cell). IsCellOf w h d × (is_beside m d ≡ true)) (sym e) (k, beside)
    go (inr j) = are c j

-- the point at a barred cell is an obstruction
point_alone : (w h : ℕ) (m c : Cell) → IsCellOf w h c → is_beside m c ≡ true → IsIn (point_at c) (alone_in (blank w h) m)
point_alone w h m c k e = later _ (later _ (IsIn-map point_at (IsIn-filter (λ d. shares_line d m && not (cell_eq d m)) (IsIn-cells_in w h c k) e)))

-- ---- what doesn't stay has two points or more, one of them in a barred cell
two_parts : (a b : Bool) → (a || not b) ≡ false → (a ≡ false) × (b ≡ true)
two_parts true b e = absurd cc
two_parts false true e = (refl, refl)
two_parts false false e = absurd cc

apart : (g : List Point) (c : Cell) → (length g == 1) ≡ false → gridded_eq g (point_at c) ≡ false
apart g c e = false_from_ne_true (gridded_eq g (point_at c)) (λ f. let same = ap (λ (h : List Point). length h) ((gridded_eq_decides g (point_at c)).0 f) in absurd (grind (arith, nat_tests)))

pub why_left_out : (w h : ℕ) (m : Cell) (barred : List Cell) (xs : List (List Point)) → AreBeside w h m barred → ((p : List Point) → IsIn p (alone_in (blank w h) m) → IsIn p xs)
    → (g : List Point) → stays barred g ≡ false → (p : List Point) × IsIn p xs × (stays barred p ≡ true) × (gridded_eq g p ≡ false) × (holds g p ≡ true)
why_left_out w h m barred xs are listed g e =
    let parts = two_parts (length g == 1) (touches (has_cell barred) g) e in
    let c = which_passes (has_cell barred) (cells_of g) parts.1 in
    let z = from_IsIn-map cell_of g c.1 in
    let at = are c.0 ((is_among_decides barred c.0).0 c.2) in
    (point_at c.0, listed (point_at c.0) (point_alone w h m c.0 at.0 at.1), refl, apart g c.0 parts.0, holds_its_point g z.0 c.0 z.1 (sym z.2))

-- ---- preimages are gridded
letters_low : (n : ℕ) (g : List Point) → AllByRecursion (λ l. l < n) (letters_of g) → AllByRecursion (λ (p : Point). p.letter < n) g
letters_low n [] k = tt
letters_low n (p ∷ g) k = (k.0, letters_low n g k.1)

preimage_gridded : (o : GridMap) (g h : List Point) → IsGridded g → IsIn h (preimages o g) → IsGridded h
preimage_gridded o g h k i =
    let long = as_long o g h i in
    let s = k.short in
    let a = from_IsIn-gridded_of (new_lines o.columns) (new_lines o.rows) (length g) h (from_IsIn-filter (λ r. gridded_eq (collapse o r) g) (gridded_of (new_lines o.columns) (new_lines o.rows) (length g)) i).0 in
    record {
      short = omega (arith, long, s);
      below = subst (λ n. All (λ (p : Point). p.letter < n) h) (sym long) (All-from_recursion (λ (p : Point). p.letter < length g) h (letters_low (length g) h a.below));
      distinct = so_is_true _ a.distinct;
      consistent = so_is_true _ a.consistent;
    }

pub preimages_gridded : (o : GridMap) (patterns : List (List Point)) → AreGridded patterns → AreGridded (preimages_of o patterns)
preimages_gridded o patterns k = all_in (λ h. IsGridded h) (preimages_of o patterns) (λ h i. let at = from_IsIn-flat_map (preimages o) patterns i in preimage_gridded o at.0 h (of_all (λ g. IsGridded g) k at.1) at.2)

-- ---- the lists as the code has them
pub others_are : (o : GridMap) (m : Cell) (t : Tiles) (qs : List PointedPattern) (d : Direction) (w h : ℕ) (start alone others : List (List Point))
    → start ≡ [] → w ≡ t.width → h ≡ t.height → alone ≡ start ++ alone_in (blank (w + 2) (h + 2)) m → others ≡ alone ++ flat_map (lifts_pointed o (is_beyond d m)) qs → others ≡ other_obstructions o m t qs d
others_are o m t qs d w h start alone others none width height e f =
    f ∙ ap (λ (points : List (List Point)). points ++ flat_map (lifts_pointed o (is_beyond d m)) qs) (e ∙ (λ i. none i ++ alone_in (blank (width i + 2) (height i + 2)) m))

pub thinned_made : (barred : List Cell) (o : GridMap) (m : Cell) (t : Tiles) (qs : List PointedPattern) (d : Direction) (forbidden others start found after : List (List Point)) (a b r : Bool)
    → forbidden ≡ t.obstructions → others ≡ other_obstructions o m t qs d → start ≡ [] → found ≡ start ++ filter (stays barred) (preimages_of o forbidden) → a ≡ some_leave barred (preimages_of o forbidden)
    → after ≡ found ++ filter (stays barred) others → b ≡ some_leave barred others → r ≡ (a || b) → AreGridded others → length others < 134217728 → AreThinned barred o m t qs d after r
thinned_made barred o m t qs d forbidden others start found after a b r is are none e f g h k gridded few = record {
  those = more_stay barred (preimages_of o t.obstructions) (other_obstructions o m t qs d) (whole_obstructions o m t qs d) [] found after refl
      (e ∙ (λ i. none i ++ filter (stays barred) (preimages_of o (is i)))) (g ∙ ap (λ (ys : List (List Point)). found ++ filter (stays barred) ys) are);
  told = k ∙ more_leave barred (preimages_of o t.obstructions) (other_obstructions o m t qs d) (whole_obstructions o m t qs d) a b refl
      (f ∙ ap (λ (ys : List (List Point)). some_leave barred (preimages_of o ys)) is) (h ∙ ap (some_leave barred) are);
  gridded = subst (λ (ys : List (List Point)). AreGridded ys) are gridded;
  few = subst (λ (ys : List (List Point)). length ys < 134217728) are few;
}

-- ---- the whole child is a tiling
insert_length : (x : List Point) (ys : List (List Point)) → length (insert_new gridded_cmp x ys) ≤ suc (length ys)
insert_length x [] = omega arith
insert_length x (y ∷ ys) = go (gridded_cmp x y) (insert_length x ys)
  where
    go : (o : Ordering) → length (insert_new gridded_cmp x ys) ≤ suc (length ys) → length (match_ordering o (x ∷ y ∷ ys) (y ∷ ys) (y ∷ insert_new gridded_cmp x ys)) ≤ suc (suc (length ys))
    go Less h = omega arith
    go Equal h = omega arith
    go Greater h = omega arith

in_order_short : (xs : List (List Point)) → length (in_order gridded_cmp xs) ≤ length xs
in_order_short [] = omega arith
in_order_short (x ∷ xs) = let a = insert_length x (in_order gridded_cmp xs) in let b = in_order_short xs in omega arith

tiling_whole : (w h : ℕ) (xs listed : List (List Point)) (lists : List (List (List Point))) → IsTiling (tiling_of w h listed lists) → AreGridded xs → IsInGrid w h xs → length xs < 268435456 → IsTiling (tiling_of w h xs lists)
tiling_whole w h xs listed lists k gridded inside few =
    let short = in_order_short xs in
    record {
      narrow = k.narrow;
      low = k.low;
      obstructions_gridded = AreGridded-in_order xs gridded;
      requirements_gridded = k.requirements_gridded;
      obstructions_in = IsInGrid-in_order w h xs inside;
      requirements_in = k.requirements_in;
      obstructions_ascend = patterns_ascend xs;
      each_ascends = k.each_ascends;
      requirements_ascend = k.requirements_ascend;
      few_obstructions = omega (arith, short, few);
      few_each = k.few_each;
      few_requirements = k.few_requirements;
    }

-- so many obstructions there are
few_whole : (o : GridMap) (m : Cell) (t : Tiles) (qs : List PointedPattern) (d : Direction) → preimage_sum o t ≤ 131072 → length (other_obstructions o m t qs d) < 134217728 → length (whole_obstructions o m t qs d) < 268435456
few_whole o m t qs d e f =
    let a = length-append (preimages_of o t.obstructions) (other_obstructions o m t qs d) in
    let b = length-flat_map (preimages o) t.obstructions in
    let c = sum_by-append (λ g. length (preimages o g)) t.obstructions (all_of t.requirements) in
    omega (arith, a, b, c, e, f)

-- ---- the child without what is left out
module _ {t : Tiles} {qs : List PointedPattern} {d : Direction} {q : PointedPattern} {w h : ℕ} {o : GridMap} {c m : Cell} {lists : List (List (List Point))} (k : IsChild t qs d q w h o c m (whole_obstructions o m t qs d) lists)
    {barred : List Cell} {listed : List (List Point)} {left_out : Bool} (thin : AreThinned barred o m t qs d listed left_out) where
  pub listed_fit : IsCellOf t.width t.height c → IsInGrid (w + 2) (h + 2) listed
  listed_fit i = subst (λ (xs : List (List Point)). IsInGrid (w + 2) (h + 2) xs) (sym thin.those) (All-filter (stays barred) (λ g. fits_grid (w + 2) (h + 2) g ≡ true) (whole_obstructions o m t qs d) (child_obstructions_fit k i))

  whole_gridded : IsTiling t → AreGridded (whole_obstructions o m t qs d)
  whole_gridded tiling = All-append (λ g. IsGridded g) (preimages_of o t.obstructions) (other_obstructions o m t qs d) (preimages_gridded o t.obstructions tiling.obstructions_gridded) thin.gridded

  alone_listed : (p : List Point) → IsIn p (alone_in (blank (t.width + 2) (t.height + 2)) m) → IsIn p (whole_obstructions o m t qs d)
  alone_listed p i = IsIn-append_right (preimages_of o t.obstructions) (IsIn-append_left (flat_map (lifts_pointed o (is_beyond d m)) qs) i)

  pub child_thinned : IsTiling t → AreBeside (t.width + 2) (t.height + 2) m barred → (u : Tiles) → u ≡ tiling_of (w + 2) (h + 2) listed lists → IsThinned (placed t qs d q) u left_out
  child_thinned tiling are u e =
      let xs : List (List Point) = whole_obstructions o m t qs d in
      let thinned : IsThinned (tiling_of (w + 2) (h + 2) xs lists) (tiling_of (w + 2) (h + 2) (filter (stays barred) xs) lists) (some_leave barred xs) =
      thinning (w + 2) (h + 2) xs (stays barred) lists (whole_gridded tiling) (λ g i f. why_left_out (t.width + 2) (t.height + 2) m barred xs are alone_listed g f) in
      let small : u ≡ tiling_of (w + 2) (h + 2) (filter (stays barred) xs) lists = e ∙ ap (λ (ys : List (List Point)). tiling_of (w + 2) (h + 2) ys lists) thin.those in
      subst (λ (v : Tiles). IsThinned (placed t qs d q) v left_out) (sym small)
      (subst (λ (b : Bool). IsThinned (placed t qs d q) (tiling_of (w + 2) (h + 2) (filter (stays barred) xs) lists) b) (sym thin.told)
      (subst (λ (v : Tiles). IsThinned v (tiling_of (w + 2) (h + 2) (filter (stays barred) xs) lists) (some_leave barred xs)) (child_is k) thinned))

  pub child_is_tiling : IsTiling t → IsCellOf t.width t.height c → preimage_sum (around t (pointed_cell q)) t ≤ 131072 → (u : Tiles) → IsTiling u → u ≡ tiling_of (w + 2) (h + 2) listed lists → IsTiling (placed t qs d q)
  child_is_tiling tiling i few u made e =
      let sums : preimage_sum o t ≤ 131072 = subst (λ (n : GridMap). preimage_sum n t ≤ 131072) (sym (map_is k)) few in
      subst (λ (v : Tiles). IsTiling v) (child_is k)
      (tiling_whole (w + 2) (h + 2) (whole_obstructions o m t qs d) listed lists (subst (λ (v : Tiles). IsTiling v) e made) (whole_gridded tiling) (child_obstructions_fit k i) (few_whole o m t qs d sums thin.few))
