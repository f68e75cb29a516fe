-- A member split at one of its points.
use Rattle.std.proofs.Common.{◌≡◌, ◌<◌, ◌≤◌, ◌+◌, ◌-◌, ℕ, true, List, refl, sym, ap, ◌∙◌, subst, arith}
use Rattle.std.specs.Prelude.{map}
use Rattle.std.specs.List.{AllByRecursion}
use Rattle.std.proofs.lemmas.List.{length-map}
use Rattle.lists.specs.Members.{IsIn}
use Rattle.lists.proofs.Members.{from_IsIn-map}
use Rattle.lists.proofs.Maps.{map_back}
use Rattle.patterns.specs.Words.{has_no_repeats}
use Rattle.gridded.specs.declared.axis.Axis.{Axis}
use Rattle.gridded.specs.declared.axis.Axis.TheVariants as axis
use Rattle.gridded.specs.declared.cell.Cell.{Cell}
use Rattle.gridded.specs.Axes.{line_of, rank_along}
use Rattle.gridded.specs.Grids.{Point, is_consistent}
use Rattle.gridded.specs.Moved.{relocated, moved}
use Rattle.gridded.specs.Laws.{IsGriddedOf}
use Rattle.gridded.proofs.Moved.{letters_relocated, cell_inside, relocated_inside}
use Rattle.tiling_core.specs.Tiles.{Tiles}
use Rattle.coord_maps.specs.LineMaps.{part_at}
use Rattle.coord_maps.specs.GridMaps.{collapse, old_cell}
use Rattle.rule_kinds.specs.Children.{around, middle}
use Rattle.rule_kinds.specs.Carry.{split_cell, split}
use Rattle.gridded.proofs.Positions.{pos, Distinct, IsAlong, along, consistent_along, pos_relocated}
use Rattle.coord_maps.proofs.Thirds.{old_of_part, part_rises, part_in_middle, part_of_itself, part_within}

pub line_of_split : (a : Axis) (g : List Point) (p q : Point) → line_of a (split_cell g p q) ≡ part_at (line_of a p.cell) (rank_along a g q) (rank_along a g p) (line_of a q.cell)
line_of_split axis.Column g p q = refl
line_of_split axis.Row g p q = refl

-- ---- the collapse of the split is the member
point_back : (t : Tiles) (g : List Point) (p q : Point) → moved (old_cell (around t p.cell)) (relocated (split_cell g p) q) ≡ q
point_back t g p q =
    let ex = old_of_part t.width p.cell.x (rank_along axis.Column g q) (rank_along axis.Column g p) q.cell.x in
    let ey = old_of_part t.height p.cell.y (rank_along axis.Row g q) (rank_along axis.Row g p) q.cell.y in
    λ i. record { letter = q.letter; cell = record { x = ex i; y = ey i } }

pub collapse_of_split : (t : Tiles) (g : List Point) (p : Point) → collapse (around t p.cell) (split g p) ≡ g
collapse_of_split t g p = map_back (moved (old_cell (around t p.cell))) (relocated (split_cell g p)) g (λ q _. point_back t g p q)

-- ---- the split is gridded
pub relocated_consistent : (F : Point → Cell) (g : List Point) → Distinct g
    → ((q r : Point) → IsIn q g → IsIn r g → rank_along axis.Column g q < rank_along axis.Column g r → (F q).x ≤ (F r).x)
    → ((q r : Point) → IsIn q g → IsIn r g → q.letter < r.letter → (F q).y ≤ (F r).y) → is_consistent (map (relocated F) g) ≡ true
relocated_consistent F g e h v =
    consistent_along (map (relocated F) g) (ap has_no_repeats (letters_relocated F g) ∙ e)
    (λ y z k l f.
    let a = from_IsIn-map (relocated F) g k in
    let b = from_IsIn-map (relocated F) g l in
    let pa : pos (map (relocated F) g) y.letter ≡ pos g a.0.letter = ap (λ (w : Point). pos (map (relocated F) g) w.letter) a.2 ∙ pos_relocated F g a.0.letter in
    let pb : pos (map (relocated F) g) z.letter ≡ pos g b.0.letter = ap (λ (w : Point). pos (map (relocated F) g) w.letter) b.2 ∙ pos_relocated F g b.0.letter in
    let m = h a.0 b.0 a.1 b.1 (omega (arith, f, pa, pb)) in
    let ey : y.cell.x ≡ (F a.0).x = ap (λ (w : Point). w.cell.x) a.2 in
    let ez : z.cell.x ≡ (F b.0).x = ap (λ (w : Point). w.cell.x) b.2 in
    omega (arith, m, ey, ez))
    (λ y z k l f.
    let a = from_IsIn-map (relocated F) g k in
    let b = from_IsIn-map (relocated F) g l in
    let pa : y.letter ≡ a.0.letter = ap (λ (w : Point). w.letter) a.2 in
    let pb : z.letter ≡ b.0.letter = ap (λ (w : Point). w.letter) b.2 in
    let m = v a.0 b.0 a.1 b.1 (omega (arith, f, pa, pb)) in
    let ey : y.cell.y ≡ (F a.0).y = ap (λ (w : Point). w.cell.y) a.2 in
    let ez : z.cell.y ≡ (F b.0).y = ap (λ (w : Point). w.cell.y) b.2 in
    omega (arith, m, ey, ez))

ranks_at_most : (a b : ℕ) → a < b → a ≤ b
ranks_at_most a b h = omega arith

pub split_is_gridded : (w h n : ℕ) (g : List Point) (p : Point) → IsGriddedOf w h n g → IsGriddedOf (w + 3 - 1) (h + 3 - 1) n (split g p)
split_is_gridded w h n g p k =
    let cols = along axis.Column g k.distinct k.consistent in
    let rows = along axis.Row g k.distinct k.consistent in
    let letters = letters_relocated (split_cell g p) g in
    record {
      as_long = length-map g (relocated (split_cell g p)) ∙ k.as_long;
      below = subst (λ ls. AllByRecursion (λ l. l < n) ls) (sym letters) k.below;
      distinct = ap has_no_repeats letters ∙ k.distinct;
      consistent = relocated_consistent (split_cell g p) g k.distinct
          (λ q r i j f. part_rises p.cell.x (rank_along axis.Column g q) (rank_along axis.Column g r) (rank_along axis.Column g p) q.cell.x r.cell.x (cols.rises q r i j f) (ranks_at_most _ _ f))
          (λ q r i j f. part_rises p.cell.y q.letter r.letter p.letter q.cell.y r.cell.y (rows.rises q r i j f) (ranks_at_most _ _ f));
      in_grid = relocated_inside (w + 3 - 1) (h + 3 - 1) (split_cell g p) g
          (λ q i. let c = cell_inside w h g k.in_grid q i in
          (part_within w p.cell.x (rank_along axis.Column g q) (rank_along axis.Column g p) q.cell.x c.0, part_within h p.cell.y (rank_along axis.Row g q) (rank_along axis.Row g p) q.cell.y c.1));
    }

-- ---- the point is in the middle, and no other shares its column or row
pub middle_of_split : (g : List Point) (p : Point) → split_cell g p p ≡ middle p.cell
middle_of_split g p =
    let ex = part_of_itself p.cell.x (rank_along axis.Column g p) in
    let ey = part_of_itself p.cell.y (rank_along axis.Row g p) in
    λ i. record { x = ex i; y = ey i }

pub line_of_middle : (a : Axis) (c : Cell) → line_of a (middle c) ≡ line_of a c + 1
line_of_middle axis.Column c = refl
line_of_middle axis.Row c = refl

pub only_in_split : (a : Axis) (g : List Point) (p : Point) → IsAlong a g → IsIn p g → (z : Point) → IsIn z (split g p) → line_of a z.cell ≡ line_of a (middle p.cell) → z ≡ relocated (split_cell g p) p
only_in_split a g p k i z j e =
    let b = from_IsIn-map (relocated (split_cell g p)) g j in
    let at : line_of a z.cell ≡ line_of a (split_cell g p b.0) = ap (λ (w : Point). line_of a w.cell) b.2 in
    let m = part_in_middle (line_of a p.cell) (rank_along a g b.0) (rank_along a g p) (line_of a b.0.cell) (sym (line_of_split a g p b.0) ∙ sym at ∙ e ∙ line_of_middle a p.cell) in
    b.2 ∙ ap (relocated (split_cell g p)) (k.same b.0 p b.1 i m.1)
