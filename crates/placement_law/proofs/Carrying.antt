-- A placement that applies carries members one to one.
use Rattle.std.proofs.Common.{◌≡◌, ◌<◌, ◌≤◌, ◌+◌, ℕ, zero, suc, Bool, true, false, List, [], ◌∷◌, length, refl, sym, ap, ◌∙◌, subst, arith}
use Rattle.std.specs.Prelude.{not, nat_le, map, Option, Some, None, slice_index_or}
use Rattle.std.specs.List.{list_all, list_any}
use Rattle.std.specs.Option.{option_map_or}
use Rattle.std.proofs.lemmas.Bool.Decides.{nat_tests}
use Rattle.std.proofs.lemmas.List.{length-map}
use Rattle.std.proofs.lemmas.List.Elements.{recursion_from_All}
use Rattle.std.proofs.lemmas.Bool.{false_from_ne_true, and_parts, not_from_false}
use Rattle.lists.proofs.Places.{IsAt, at_in, at_get, at_map, at_below, is_at, at_position}
use Rattle.lists.proofs.Members.{of_each, IsIn-map, from_IsIn-map, IsIn-filter, from_IsIn-filter}
use Rattle.lists.proofs.Tests.{each_passes, all_pass, which_passes, some_passes}
use Rattle.lists.proofs.Maps.{map_back}
use Rattle.lists.specs.Members.{IsIn}
use Rattle.gridded.specs.declared.axis.Axis.{Axis}
use Rattle.gridded.specs.declared.axis.Axis.TheVariants as axis
use Rattle.gridded.specs.declared.cell.Cell.{Cell}
use Rattle.gridded.specs.Axes.{line_of, rank_along}
use Rattle.gridded.specs.Grids.{Point, holds, is_consistent}
use Rattle.gridded.specs.Orders.{cell_eq}
use Rattle.gridded.specs.OrderLaws.{cell_eq_decides}
use Rattle.gridded.specs.Laws.{IsCellOf}
use Rattle.tiling_core.specs.Tiles.{Tiles, IsTiling, is_member}
use Rattle.tiling_core.specs.Carried.{MemberOf, CarriesTo}
use Rattle.tiling_core.specs.Patterns.{also}
use Rattle.tiling_core.proofs.Deciding.{fits_grid_decides, not_held}
use Rattle.coord_maps.specs.LineMaps.{old_line, part_at, in_three}
use Rattle.coord_maps.specs.GridMaps.{IsGridMap, collapse, old_cell}
use Rattle.gridded.specs.Moved.{moved, relocated}
use Rattle.coord_maps.specs.Laws.{PreimagesAreListed, StretchKeepsMembers, CollapseIsGridded}
use Rattle.rule_kinds.specs.Pointeds.{PointedPattern}
use Rattle.rule_kinds.specs.declared.kind.Direction.{Direction}
use Rattle.rule_kinds.specs.declared.kind.Kind.TheVariants as kind
use Rattle.rule_kinds.specs.Kinds.{IsKept, IsPointed, pointed_cell, point_of, axis_of, is_farther}
use Rattle.rule_kinds.specs.Lines.{in_grid}
use Rattle.rule_kinds.specs.Children as C
use Rattle.rule_kinds.specs.Children.{around, middle, placed, patterns_pointed, raw_children, over_of, middle_of}
use Rattle.rule_kinds.specs.Conditions as D
use Rattle.rule_kinds.specs.Conditions.{applies, all_distinct, on_one_line}
use Rattle.rule_kinds.specs.Carry.{Image, is_pointed_by, pointed_points, farthest, split, number_of, pattern_of_child, split_cell}
use Rattle.rule_kinds.specs.Carried.{numbered_image, from_image, IsCarriedOneToOne}
use Rattle.tiling_core.proofs.Further.{holding_none, from_further, member_by_test}
use Rattle.placement_law.specs.Placing.{PlacementsCarryMembers}
use Rattle.gridded.proofs.Positions.{Distinct, IsAlong, along, rank_relocated}
use Rattle.coord_maps.proofs.Thirds.{part_again, old_of_middle}
use Rattle.placement_law.proofs.Splits.{collapse_of_split, split_is_gridded, middle_of_split, only_in_split, line_of_middle}
use Rattle.placement_law.proofs.Alone.{IsOnly}
use Rattle.placement_law.proofs.Marked.{pointed_cell_is, held_when_pointed, pointed_when_held, point_in_list}
use Rattle.placement_law.proofs.Farthest.{line_not_beyond, rank_not_beyond, farthest_tells, farthest_none, farthest_of_none, farthest_is}
use Rattle.placement_law.proofs.Numbered.{one_pointed, position_is}
use Rattle.placement_law.proofs.Placed.{around_is_map, placed_from, placed_tells}

-- ---- beyond by line and by rank
beyond_by_line : (d : Direction) (h : List Point) → IsAlong (axis_of d) h → (y z : Point) → IsIn y h → IsIn z h → is_farther d (rank_along (axis_of d) h y) (rank_along (axis_of d) h z) ≡ false → is_farther d (line_of (axis_of d) y.cell) (line_of (axis_of d) z.cell) ≡ false
beyond_by_line d h k y z i j f =
    line_not_beyond d (line_of (axis_of d) y.cell) (line_of (axis_of d) z.cell) (rank_along (axis_of d) h y) (rank_along (axis_of d) h z) (k.rises y z i j) (k.rises z y j i)
    (λ e. ap (λ (w : Point). line_of (axis_of d) w.cell) (k.same y z i j e)) f

beyond_by_rank : (d : Direction) (h : List Point) → IsAlong (axis_of d) h → (y z : Point) → IsIn y h → IsIn z h → (line_of (axis_of d) y.cell ≡ line_of (axis_of d) z.cell → y ≡ z) → is_farther d (line_of (axis_of d) y.cell) (line_of (axis_of d) z.cell) ≡ false → is_farther d (rank_along (axis_of d) h y) (rank_along (axis_of d) h z) ≡ false
beyond_by_rank d h k y z i j one f =
    rank_not_beyond d (line_of (axis_of d) y.cell) (line_of (axis_of d) z.cell) (rank_along (axis_of d) h y) (rank_along (axis_of d) h z) (k.rises y z i j) (k.rises z y j i)
    (λ e. ap (λ (w : Point). rank_along (axis_of d) h w) (one e)) f

-- ---- the collapse, split again
axis_again : (a : Axis) (lines : ℕ) (c : Cell) (h : List Point) (z y : Point) (at rq rp : ℕ) → IsAlong a h → IsOnly (middle c) h z → IsIn y h → at ≡ line_of a c → rq ≡ rank_along a h y → rp ≡ rank_along a h z
    → part_at at rq rp (old_line (in_three lines (line_of a c)) (line_of a y.cell)) ≡ line_of a y.cell
axis_again a lines c h z y at rq rp k o i ea eq ep =
    let lm : line_of a z.cell ≡ line_of a c + 1 = ap (λ (u : Cell). line_of a u) o.at ∙ line_of_middle a c in
    ap (λ u. part_at u rq rp (old_line (in_three lines (line_of a c)) (line_of a y.cell))) ea
    ∙ ap (λ u. part_at (line_of a c) u rp (old_line (in_three lines (line_of a c)) (line_of a y.cell))) eq
    ∙ ap (λ u. part_at (line_of a c) (rank_along a h y) u (old_line (in_three lines (line_of a c)) (line_of a y.cell))) ep
    ∙ part_again lines (line_of a c) (rank_along a h y) (rank_along a h z) (line_of a y.cell)
    (λ l. let r = k.rises y z i o.there l in omega (arith, r, lm))
    (λ l. let r = k.rises z y o.there i l in omega (arith, r, lm))
    (λ e. ap (λ (w : Point). line_of a w.cell) (k.same y z i o.there e) ∙ lm)
    (λ e. ap (λ (w : Point). rank_along a h w) (o.only a y i (e ∙ sym (line_of_middle a c))))

middle_collapses : (t : Tiles) (c : Cell) (z : Point) → z.cell ≡ middle c → (moved (old_cell (around t c)) z).cell ≡ c
middle_collapses t c z e =
    ap (λ (u : Cell). old_cell (around t c) u) e ∙ (let ex = old_of_middle t.width c.x in let ey = old_of_middle t.height c.y in λ i. record { x = ex i; y = ey i })

split_again : (t : Tiles) (c : Cell) (h : List Point) (z : Point) → Distinct h → is_consistent h ≡ true → IsOnly (middle c) h z → split (collapse (around t c) h) (moved (old_cell (around t c)) z) ≡ h
split_again t c h z d e o =
    map_back (relocated (split_cell (collapse (around t c) h) (moved (old_cell (around t c)) z))) (moved (old_cell (around t c))) h
    (λ y i.
    let p = middle_collapses t c z o.at in
    let ex = axis_again axis.Column t.width c h z y _ _ _ (along axis.Column h d e) o i (ap (λ (u : Cell). u.x) p) (rank_relocated axis.Column (λ w. old_cell (around t c) w.cell) h y) (rank_relocated axis.Column (λ w. old_cell (around t c) w.cell) h z) in
    let ey = axis_again axis.Row t.height c h z y _ _ _ (along axis.Row h d e) o i (ap (λ (u : Cell). u.y) p) (rank_relocated axis.Row (λ w. old_cell (around t c) w.cell) h y) (rank_relocated axis.Row (λ w. old_cell (around t c) w.cell) h z) in
    λ j. record { letter = y.letter; cell = record { x = ex j; y = ey j } })

module _ (listed : PreimagesAreListed) (keeps : StretchKeepsMembers) (collapsed : CollapseIsGridded) (t : Tiles) (tiling : IsTiling t) (qs : List PointedPattern) (pointed : (q : PointedPattern) → IsIn q qs → IsPointed q) (d : Direction) (narrow : t.width ≤ 6) (low : t.height ≤ 6) (inside : (q : PointedPattern) → IsIn q qs → IsCellOf t.width t.height (pointed_cell q)) (distinct : all_distinct (map pointed_cell qs) ≡ true) where
  over_is_map : (q : PointedPattern) → IsIn q qs → IsGridMap (over_of t q)
  over_is_map q i = let c = inside q i in around_is_map t (pointed_cell q) narrow low c.0 c.1

  abbrev is_some_pointed : List Point → Point → Bool
  is_some_pointed g p = list_any (λ q. is_pointed_by g q p) qs

  -- ---- a member with a farthest pointed point
  record IsSplit (n : ℕ) (g : List Point) (p : Point) : Type 0 where
    pattern : PointedPattern
    place : ℕ
    at : IsAt pattern place qs
    number : number_of qs p.cell ≡ suc place
    collapses : collapse (over_of t pattern) (split g p) ≡ g
    member : MemberOf (placed t qs d pattern) n (split g p)

  split_member : (n : ℕ) (g : List Point) (p : Point) → MemberOf t n g → farthest d g (pointed_points qs g) ≡ Some p → IsSplit n g p
  split_member n g p m e =
      let far = farthest_tells d g (pointed_points qs g) p e in
      let inp = from_IsIn-filter (is_some_pointed g) g far.0 in
      let w = which_passes (λ q. is_pointed_by g q p) qs inp.1 in
      let c' : p.cell ≡ pointed_cell w.0 = pointed_cell_is g w.0 p m.gridded.distinct (pointed w.0 w.1) inp.0 w.2 in
      let at = at_position (λ q. cell_eq p.cell (pointed_cell q)) qs (some_passes (λ q. cell_eq p.cell (pointed_cell q)) w.1 ((cell_eq_decides p.cell (pointed_cell w.0)).1 c')) in
      let q : PointedPattern = at.0 in
      let c : p.cell ≡ pointed_cell q = (cell_eq_decides p.cell (pointed_cell q)).0 at.4 in
      let same : w.0 ≡ q = one_pointed qs distinct w.0 q w.1 (at_in at.2) (sym c' ∙ c) in
      let marked : is_pointed_by g q p ≡ true = subst (λ (r : PointedPattern). is_pointed_by g r p ≡ true) same w.2 in
      let col : collapse (over_of t q) (split g p) ≡ g = subst (λ (u : Cell). collapse (around t u) (split g p) ≡ g) c (collapse_of_split t g p) in
      let gs = split_is_gridded t.width t.height n g p m.gridded in
      let z = relocated (split_cell g p) p in
      let middle_at : z.cell ≡ middle_of q = middle_of_split g p ∙ ap middle c in
      let there = IsIn-map (relocated (split_cell g p)) inp.0 in
      record {
        pattern = q;
        place = at.1;
        at = at.2;
        number = omega (arith, at.3);
        collapses = col;
        member = placed_from listed keeps collapsed t tiling qs pointed d q (at_in at.2) (over_is_map q (at_in at.2)) n (split g p) z gs (ap (λ (u : List Point). is_member t u) col ∙ member_by_test t n g m)
            (record {
              only = record {
                there = there;
                at = middle_at;
                only = λ a y i f. only_in_split a g p (along a g m.gridded.distinct m.gridded.consistent) inp.0 y i (f ∙ ap (λ (u : Cell). line_of a (middle u)) (sym c));
              };
              marked = ap (λ (u : List Point). is_pointed_by u q z) col ∙ marked;
              none_beyond = λ r j y i f.
                  let b = from_IsIn-map (relocated (split_cell g p)) g i in
                  let f' : is_pointed_by g r b.0 ≡ true = sym (ap (λ (u : Point). is_pointed_by g r u) b.2) ∙ sym (ap (λ (u : List Point). is_pointed_by u r y) col) ∙ f in
                  let n = far.1 b.0 (IsIn-filter (is_some_pointed g) b.1 (some_passes (λ s. is_pointed_by g s b.0) j f')) in
                  let e1 : rank_along (axis_of d) (split g p) y ≡ rank_along (axis_of d) g b.0 = ap (λ (u : Point). rank_along (axis_of d) (split g p) u) b.2 ∙ rank_relocated (axis_of d) (split_cell g p) g b.0 in
                  let e2 : rank_along (axis_of d) (split g p) z ≡ rank_along (axis_of d) g p = rank_relocated (axis_of d) (split_cell g p) g p in
                  ap (λ (u : Cell). is_farther d (line_of (axis_of d) y.cell) (line_of (axis_of d) u)) (sym middle_at)
                  ∙ beyond_by_line d (split g p) (along (axis_of d) (split g p) gs.distinct gs.consistent) y z i there
                  (ap (λ u. is_farther d u (rank_along (axis_of d) (split g p) z)) e1 ∙ ap (λ u. is_farther d (rank_along (axis_of d) g b.0) u) e2 ∙ n);
            });
      }

  -- ---- a member of the child of a pattern
  record IsBack (n k : ℕ) (q : PointedPattern) (h : List Point) : Type 0 where
    member : MemberOf t n (collapse (over_of t q) h)
    point : Point
    far : farthest d (collapse (over_of t q) h) (pointed_points qs (collapse (over_of t q) h)) ≡ Some point
    number : number_of qs point.cell ≡ suc k
    again : split (collapse (over_of t q) h) point ≡ h

  placed_member : (n k : ℕ) (q : PointedPattern) (h : List Point) → IsAt q k qs → MemberOf (placed t qs d q) n h → IsBack n k q h
  placed_member n k q h a m =
      let told = placed_tells listed keeps collapsed t tiling qs pointed d q (at_in a) (over_is_map q (at_in a)) n h m in
      let z : Point = told.1.0 in
      let o = told.1.1.only in
      let g : List Point = collapse (over_of t q) h in
      let p : Point = moved (old_cell (over_of t q)) z in
      let pc : p.cell ≡ pointed_cell q = middle_collapses t (pointed_cell q) z o.at in
      let ap_h = along (axis_of d) h m.gridded.distinct m.gridded.consistent in
      let ap_g = along (axis_of d) g told.0.gridded.distinct told.0.gridded.consistent in
      let rank_of = rank_relocated (axis_of d) (λ w. old_cell (over_of t q) w.cell) h in
      record {
        member = told.0;
        point = p;
        far = farthest_is d g (pointed_points qs g) p (λ y x i j e. ap_g.same y x (from_IsIn-filter (is_some_pointed g) g i).0 (from_IsIn-filter (is_some_pointed g) g j).0 e)
            (IsIn-filter (is_some_pointed g) (IsIn-map (moved (old_cell (over_of t q))) o.there) (some_passes (λ r. is_pointed_by g r p) (at_in a) told.1.1.marked))
            (λ r i.
            let s = from_IsIn-filter (is_some_pointed g) g i in
            let y = from_IsIn-map (moved (old_cell (over_of t q))) h s.0 in
            let w = which_passes (λ u. is_pointed_by g u r) qs s.1 in
            let by : is_pointed_by g w.0 y.0 ≡ true = sym (ap (λ (u : Point). is_pointed_by g w.0 u) y.2) ∙ w.2 in
            let n = told.1.1.none_beyond w.0 w.1 y.0 y.1 by in
            let line : is_farther d (line_of (axis_of d) y.0.cell) (line_of (axis_of d) z.cell) ≡ false = ap (λ (u : Cell). is_farther d (line_of (axis_of d) y.0.cell) (line_of (axis_of d) u)) o.at ∙ n in
            let ranks = beyond_by_rank d h ap_h y.0 z y.1 o.there (λ f. o.only (axis_of d) y.0 y.1 (f ∙ ap (λ (u : Cell). line_of (axis_of d) u) o.at)) line in
            ap (λ (u : Point). is_farther d (rank_along (axis_of d) g u) (rank_along (axis_of d) g p)) y.2
            ∙ ap (λ u. is_farther d u (rank_along (axis_of d) g p)) (rank_of y.0) ∙ ap (λ u. is_farther d (rank_along (axis_of d) h y.0) u) (rank_of z) ∙ ranks);
        number = let e = position_is qs distinct q k a p.cell pc in omega (arith, e);
        again = split_again t (pointed_cell q) h z m.gridded.distinct m.gridded.consistent o;
      }

  -- ---- the children by their numbers
  abbrev child_list : List Tiles
  child_list = also t (patterns_pointed qs) [] ∷ map (placed t qs d) qs

  abbrev image_of : List Point → Option Point → Image
  image_of g o = option_map_or (λ p. record { child = number_of qs p.cell; member = split g p }) o (record { child = 0; member = g })

  abbrev back_of : Image → List Point
  back_of i = option_map_or (λ q. collapse (around t (pointed_cell q)) i.member) (pattern_of_child qs i.child) i.member

  record IsGood (n : ℕ) (g : List Point) (i : Image) : Type 0 where
    below : i.child < length child_list
    member : MemberOf (slice_index_or child_list i.child t) n i.member
    undone : back_of i ≡ g

  good_none : (n : ℕ) (g : List Point) → MemberOf t n g → farthest d g (pointed_points qs g) ≡ None → IsGood n g (record { child = 0; member = g })
  good_none n g m e = record {
    below = omega arith;
    member = holding_none t (patterns_pointed qs) n g m (all_pass (λ p. not (holds g p)) (patterns_pointed qs) (λ p i.
        let q = from_IsIn-map (λ (r : PointedPattern). r.pattern) qs i in
        rw q.2 (not_from_false (holds g q.0.pattern) (false_from_ne_true (holds g q.0.pattern) (λ f.
        let z = pointed_when_held g q.0 (pointed q.0 q.1) f in
        farthest_none d g (pointed_points qs g) e z.0 (IsIn-filter (is_some_pointed g) z.1 (some_passes (λ r. is_pointed_by g r z.0) q.1 z.2)))))));
    undone = refl;
  }

  good_some : (n : ℕ) (g : List Point) (p : Point) → IsSplit n g p → IsGood n g (record { child = number_of qs p.cell; member = split g p })
  good_some n g p s =
      subst (λ k. IsGood n g (record { child = k; member = split g p })) (sym s.number) (record {
        below = let b = at_below s.at in let l = length-map qs (placed t qs d) in omega arith;
        member = subst (λ (u : Tiles). MemberOf u n (split g p)) (sym (at_map (placed t qs d) t s.at)) s.member;
        undone = ap (λ (o : Option PointedPattern). option_map_or (λ q. collapse (around t (pointed_cell q)) (split g p)) o (split g p)) (at_get s.at) ∙ s.collapses;
      })

  image_good : (n : ℕ) (g : List Point) → MemberOf t n g → (o : Option Point) → farthest d g (pointed_points qs g) ≡ o → IsGood n g (image_of g o)
  image_good n g m None e = good_none n g m e
  image_good n g m (Some p) e = good_some n g p (split_member n g p m e)

  record IsBrought (n i : ℕ) (h : List Point) : Type 0 where
    member : MemberOf t n (from_image t (kind.Place qs d) (i, h))
    redone : numbered_image (kind.Place qs d) (from_image t (kind.Place qs d) (i, h)) ≡ (i, h)

  abbrev numbered_of : List Point → Option Point → ℕ × List Point
  numbered_of g o = ((image_of g o).child, (image_of g o).member)

  none_pointed : (h : List Point) → list_all (λ p. not (holds h p)) (patterns_pointed qs) ≡ true → (z : Point) → IsIn z (pointed_points qs h) → ⊥
  none_pointed h e z i =
      let w = which_passes (λ q. is_pointed_by h q z) qs (from_IsIn-filter (is_some_pointed h) h i).1 in
      not_held (holds h w.0.pattern) (each_passes (λ p. not (holds h p)) e (IsIn-map (λ (r : PointedPattern). r.pattern) w.1)) (held_when_pointed h w.0 z w.2)

  from_child : (n i : ℕ) (h : List Point) → i < length child_list → MemberOf (slice_index_or child_list i t) n h → IsBrought n i h
  from_child n zero h s m =
      let k = from_further t (patterns_pointed qs) [] n h m in
      record { member = k.0; redone = ap (λ (o : Option Point). numbered_of h o) (farthest_of_none d h (pointed_points qs h) (none_pointed h k.1)) }
  from_child n (suc k) h s m =
      let l = length-map qs (placed t qs d) in
      let a = is_at qs k (omega arith) in
      let b = placed_member n k a.0 h a.1 (subst (λ (u : Tiles). MemberOf u n h) (at_map (placed t qs d) t a.1) m) in
      let e : from_image t (kind.Place qs d) (suc k, h) ≡ collapse (over_of t a.0) h = ap (λ (o : Option PointedPattern). option_map_or (λ q. collapse (around t (pointed_cell q)) h) o h) (at_get a.1) in
      let far = ap (λ (o : Option Point). numbered_of (collapse (over_of t a.0) h) o) b.far in
      let pair : numbered_of (collapse (over_of t a.0) h) (Some b.point) ≡ (suc k, h) = let x = b.number in let y = b.again in λ j. (x j, y j) in
      record {
        member = subst (λ (u : List Point). MemberOf t n u) (sym e) b.member;
        redone = ap (λ (u : List Point). numbered_image (kind.Place qs d) u) e ∙ far ∙ pair;
      }

  carries : CarriesTo t (raw_children t (kind.Place qs d)) (numbered_image (kind.Place qs d)) (from_image t (kind.Place qs d))
  unfolding C.raw_children
  carries = record {
    to_child = λ n g m. (image_good n g m (farthest d g (pointed_points qs g)) refl).below;
    carried = λ n g m. (image_good n g m (farthest d g (pointed_points qs g)) refl).member;
    undone = λ n g m. (image_good n g m (farthest d g (pointed_points qs g)) refl).undone;
    brought = λ n i h s m. (from_child n i h s m).member;
    redone = λ n i h s m. (from_child n i h s m).redone;
  }

-- ---- what it takes that a placement applies
at_most_six : (n : ℕ) → nat_le n 6 ≡ true → n ≤ 6
at_most_six n e = grind (arith, nat_tests)

pointed_inside : (t : Tiles) (qs : List PointedPattern) → list_all (in_grid t) (patterns_pointed qs) ≡ true → (q : PointedPattern) → IsIn q qs → IsPointed q → IsCellOf t.width t.height (pointed_cell q)
pointed_inside t qs e q i o =
    (fits_grid_decides t.width t.height q.pattern).0 (each_passes (in_grid t) e (IsIn-map (λ (r : PointedPattern). r.pattern) i)) (point_of q.pattern q.index) (point_in_list q.pattern q.index o.place)

pub placements_carry_members : PreimagesAreListed → StretchKeepsMembers → CollapseIsGridded → PlacementsCarryMembers
placements_carry_members listed keeps collapsed t tiling qs all d can =
    let seven = and_parts _ _ can in
    let six = and_parts _ (on_one_line (axis_of d) (map pointed_cell qs)) seven.0 in
    let five = and_parts _ (all_distinct (map pointed_cell qs)) six.0 in
    let four = and_parts _ (list_all (in_grid t) (patterns_pointed qs)) five.0 in
    let three = and_parts _ (nat_le t.height 6) four.0 in
    let two = and_parts _ (nat_le t.width 6) three.0 in
    let pointed = λ (q : PointedPattern) (i : IsIn q qs). of_each IsPointed (recursion_from_All IsPointed qs all) i in
    carries listed keeps collapsed t tiling qs pointed d (at_most_six t.width two.1) (at_most_six t.height three.1) (λ q i. pointed_inside t qs four.1 q i (pointed q i)) five.1

-- the same as a kind that applies
pub by_placing : PreimagesAreListed → StretchKeepsMembers → CollapseIsGridded → (t : Tiles) → IsTiling t → (qs : List PointedPattern) (d : Direction) → IsKept (kind.Place qs d) → applies t (kind.Place qs d) ≡ true → IsCarriedOneToOne t (kind.Place qs d)
unfolding D.applies
by_placing listed keeps collapsed t tiling qs d all e = placements_carry_members listed keeps collapsed t tiling qs all d e
