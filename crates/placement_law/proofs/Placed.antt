-- What the members of the child of a pointed pattern are.
use Rattle.std.proofs.Common.{◌≡◌, ◌<◌, ◌≤◌, ◌+◌, ◌-◌, ℕ, Bool, true, false, List, [], ◌∷◌, ◌++◌, refl, sym, ◌∙◌, arith, inl}
use Rattle.std.specs.Prelude.{◌&&◌, not, map, flat_map}
use Rattle.std.specs.List.{list_all, list_any}
use Rattle.std.proofs.lemmas.List.Folds.{list_all-append}
use Rattle.std.proofs.lemmas.Bool.{false_from_ne_true, and_parts, and_from, not_from_false}
use Rattle.lists.specs.Members.IsIn.{here}
use Rattle.lists.proofs.Tests.{each_passes, all_pass, which_passes, some_passes}
use Rattle.lists.specs.Members.{IsIn}
use Rattle.lists.proofs.Members.{IsIn-flat_map, from_IsIn-flat_map}
use Rattle.gridded.specs.declared.cell.Cell.{Cell}
use Rattle.gridded.specs.Grids.{Point, holds}
use Rattle.gridded.specs.Orders.{cell_eq}
use Rattle.gridded.specs.OrderLaws.{cell_eq_decides}
use Rattle.gridded.specs.Laws.{IsGriddedOf}
use Rattle.tiling_core.specs.Tiles.{Tiles, IsTiling, is_member}
use Rattle.tiling_core.specs.Carried.{MemberOf}
use Rattle.gridded.specs.Small.{point_at}
use Rattle.tiling_core.proofs.Deciding.{is_member_decides, fits_grid_decides, not_held}
use Rattle.tiling_core.proofs.Ordered.{is_member-also}
use Rattle.coord_maps.specs.GridMaps.{IsGridMap, collapse, fits_new}
use Rattle.coord_maps.specs.Stretches.{stretch}
use Rattle.coord_maps.specs.Laws.{PreimagesAreListed, StretchKeepsMembers, CollapseIsGridded}
use Rattle.rule_kinds.specs.Pointeds.{PointedPattern}
use Rattle.rule_kinds.specs.declared.kind.Direction.{Direction}
use Rattle.rule_kinds.specs.Kinds.{IsPointed}
use Rattle.rule_kinds.specs.Children.{around, over_of, middle_of, is_beyond, alone_in, lifts_pointed, placed}
use Rattle.rule_kinds.specs.Carry.{is_pointed_by}
use Rattle.placement_law.proofs.Alone.{IsOnly, avoids_alone, only_from}
use Rattle.gridded.proofs.Pairs.{holds_its_point}
use Rattle.gridded.proofs.Moved.{cell_inside}
use Rattle.placement_law.proofs.Marked.{pointed_held, held_pointed}

-- what a member h of the child of q is, where g is its collapse
pub record IsPlaced (qs : List PointedPattern) (d : Direction) (q : PointedPattern) (g h : List Point) (z : Point) : Type 0 where
  pub only : IsOnly (middle_of q) h z
  pub marked : is_pointed_by g q z ≡ true
  pub none_beyond : (r : PointedPattern) → IsIn r qs → (y : Point) → IsIn y h → is_pointed_by g r y ≡ true → is_beyond d (middle_of q) y.cell ≡ false

pub around_is_map : (t : Tiles) (c : Cell) → t.width ≤ 6 → t.height ≤ 6 → c.x < t.width → c.y < t.height → IsGridMap (around t c)
around_is_map t c w h x y = record {
  columns = record { some_parts = omega arith; inside = inl x; few = omega arith };
  rows = record { some_parts = omega arith; inside = inl y; few = omega arith };
}

abbrev beyond_lifts : Tiles → List PointedPattern → Direction → PointedPattern → List (List Point)
beyond_lifts t qs d q = flat_map (lifts_pointed (over_of t q) (is_beyond d (middle_of q))) qs

abbrev wide_of : Tiles → PointedPattern → Tiles
wide_of t q = stretch (over_of t q) t

abbrev own_lifts : Tiles → PointedPattern → List (List Point)
own_lifts t q = lifts_pointed (over_of t q) (cell_eq (middle_of q)) q

abbrev none_held : List Point → List (List Point) → Bool
none_held h patterns = list_all (λ p. not (holds h p)) patterns

abbrev some_held : List Point → List (List Point) → Bool
some_held h patterns = list_any (λ p. holds h p) patterns

-- membership of the child, test by test
pub placed_test : (t : Tiles) (qs : List PointedPattern) (d : Direction) (q : PointedPattern) (h : List Point)
    → is_member (placed t qs d q) h ≡ (is_member (wide_of t q) h && (none_held h (alone_in (wide_of t q) (middle_of q) ++ beyond_lifts t qs d q) && (some_held h (point_at (middle_of q) ∷ []) && (some_held h (own_lifts t q) && true))))
placed_test t qs d q h = is_member-also (wide_of t q) (alone_in (wide_of t q) (middle_of q) ++ beyond_lifts t qs d q) ((point_at (middle_of q) ∷ []) ∷ own_lifts t q ∷ []) h

module _ (listed : PreimagesAreListed) (keeps : StretchKeepsMembers) (collapsed : CollapseIsGridded) (t : Tiles) (tiling : IsTiling t) (qs : List PointedPattern) (pointed : (q : PointedPattern) → IsIn q qs → IsPointed q) (d : Direction) where
  fits_wide : (q : PointedPattern) (n : ℕ) (h : List Point) → IsGriddedOf (t.width + 3 - 1) (t.height + 3 - 1) n h → fits_new (over_of t q) h ≡ true
  fits_wide q n h k = (fits_grid_decides (t.width + 3 - 1) (t.height + 3 - 1) h).1 (λ p i. cell_inside (t.width + 3 - 1) (t.height + 3 - 1) h k.in_grid p i)

  -- what makes h a member of the child
  pub placed_from : (q : PointedPattern) → IsIn q qs → IsGridMap (over_of t q) → (n : ℕ) (h : List Point) (z : Point) → IsGriddedOf (t.width + 3 - 1) (t.height + 3 - 1) n h
      → is_member t (collapse (over_of t q) h) ≡ true → IsPlaced qs d q (collapse (over_of t q) h) h z → MemberOf (placed t qs d q) n h
  placed_from q i map n h z k m p = record {
    gridded = k;
    member = (is_member_decides (placed t qs d q) h).0 (placed_test t qs d q h ∙
        and_from (is_member (wide_of t q) h) _ (keeps (over_of t q) t h map tiling (record { columns = refl; rows = refl }) k.consistent (fits_wide q n h k) ∙ m)
        (and_from (none_held h (alone_in (wide_of t q) (middle_of q) ++ beyond_lifts t qs d q)) _
        (list_all-append (λ p. not (holds h p)) (alone_in (wide_of t q) (middle_of q)) (beyond_lifts t qs d q)
        ∙ and_from (none_held h (alone_in (wide_of t q) (middle_of q))) (none_held h (beyond_lifts t qs d q)) (avoids_alone (wide_of t q) (middle_of q) h z p.only) no_lift_beyond)
        (and_from (some_held h (point_at (middle_of q) ∷ [])) _ (some_passes (λ p. holds h p) (here {xs = []}) (holds_its_point h z (middle_of q) p.only.there p.only.at))
        (and_from (some_held h (own_lifts t q)) true
        (pointed_held listed (over_of t q) h q (cell_eq (middle_of q)) z (pointed q i) k.distinct k.consistent (fits_wide q n h k) p.only.there ((cell_eq_decides (middle_of q) z.cell).1 (sym p.only.at)) p.marked) refl))));
  }
    where
      no_lift_beyond : none_held h (beyond_lifts t qs d q) ≡ true
      no_lift_beyond =
          all_pass (λ p. not (holds h p)) (beyond_lifts t qs d q)
          (λ g j. not_from_false (holds h g) (false_from_ne_true (holds h g) (λ e.
          let r = from_IsIn-flat_map (lifts_pointed (over_of t q) (is_beyond d (middle_of q))) qs j in
          let y = held_pointed listed (over_of t q) h r.0 (is_beyond d (middle_of q)) (pointed r.0 r.1) (some_passes (λ w. holds h w) r.2 e) in
          let f : false ≡ true = sym (p.none_beyond r.0 r.1 y.0 y.1 y.3) ∙ y.2 in cc)))

  -- ---- and what a member of the child is
  pub placed_tells : (q : PointedPattern) → IsIn q qs → IsGridMap (over_of t q) → (n : ℕ) (h : List Point) → MemberOf (placed t qs d q) n h
      → MemberOf t n (collapse (over_of t q) h) × ((z : Point) × IsPlaced qs d q (collapse (over_of t q) h) h z)
  placed_tells q i map n h m =
      let e : is_member (placed t qs d q) h ≡ true = (is_member_decides (placed t qs d q) h).1 m.member in
      let fit = fits_wide q n h m.gridded in
      let a = and_parts (is_member (wide_of t q) h) _ (sym (placed_test t qs d q h) ∙ e) in
      let b = and_parts (none_held h (alone_in (wide_of t q) (middle_of q) ++ beyond_lifts t qs d q)) _ a.1 in
      let c = and_parts (some_held h (point_at (middle_of q) ∷ [])) _ b.1 in
      let own = (and_parts (some_held h (own_lifts t q)) true c.1).0 in
      let none = and_parts (none_held h (alone_in (wide_of t q) (middle_of q))) (none_held h (beyond_lifts t qs d q)) (sym (list_all-append (λ p. not (holds h p)) (alone_in (wide_of t q) (middle_of q)) (beyond_lifts t qs d q)) ∙ b.0) in
      let z = held_pointed listed (over_of t q) h q (cell_eq (middle_of q)) (pointed q i) own in
      let at : z.0.cell ≡ middle_of q = sym ((cell_eq_decides (middle_of q) z.0.cell).0 z.2) in (
        record {
          gridded = collapsed (over_of t q) n h map m.gridded;
          member = (is_member_decides t (collapse (over_of t q) h)).0 (sym (keeps (over_of t q) t h map tiling (record { columns = refl; rows = refl }) m.gridded.consistent fit) ∙ a.0);
        },
        (
          z.0,
          record {
            only = only_from (wide_of t q) (middle_of q) h m.gridded.distinct (λ y j. cell_inside (t.width + 3 - 1) (t.height + 3 - 1) h m.gridded.in_grid y j) none.0 z.0 z.1 at;
            marked = z.3;
            none_beyond = λ r j y l f. false_from_ne_true (is_beyond d (middle_of q) y.cell) (λ g.
                let w = which_passes (λ p. holds h p) (lifts_pointed (over_of t q) (is_beyond d (middle_of q)) r) (pointed_held listed (over_of t q) h r (is_beyond d (middle_of q)) y (pointed r j) m.gridded.distinct m.gridded.consistent fit l g f) in
                not_held (holds h w.0) (each_passes (λ p. not (holds h p)) none.1 (IsIn-flat_map (lifts_pointed (over_of t q) (is_beyond d (middle_of q))) j w.1)) w.2);
          },
        ),
      )
