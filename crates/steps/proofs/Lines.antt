-- The members of a tiling with a blank line are those of the tiling without it.
use Rattle.std.proofs.Common.{◌≡◌, ℕ, ◌-◌, ◌<◌, Bool, true, false, cond, List, [], ◌∷◌, length, refl, ◌∙◌, arith}
use Rattle.std.specs.Prelude.{◌&&◌, ◌||◌, ◌==◌, not, map, nat_lt}
use Rattle.std.specs.List.{filter, list_any, list_all, range_with_len}
use Rattle.std.proofs.lemmas.List.Folds.{list_all-map}
use Rattle.std.proofs.lemmas.Bool.Decides.{nat_tests}
use Rattle.std.proofs.lemmas.Bool.{and_parts as and_true, and_from as both_true, not-true as not_true, not_from_false as not_false}
use Rattle.lists.specs.Members.IsIn.{here, later}
use Rattle.lists.specs.Parts.IsPart.{none, kept, left_out}
use Rattle.lists.specs.Members.{IsIn}
use Rattle.lists.specs.Parts.{IsPart}
use Rattle.lists.proofs.Members.{IsIn-map, from_IsIn-map, IsIn-filter, IsIn-flat_map}
use Rattle.lists.proofs.Ranges.{in_range_with_len}
use Rattle.patterns.proofs.Occurrences.{match_tells}
use Rattle.gridded.specs.declared.axis.Axis.{Axis}
use Rattle.gridded.specs.declared.axis.Axis.TheVariants.{Column, Row}
use Rattle.gridded.specs.declared.cell.Cell.{Cell}
use Rattle.gridded.specs.Axes.{line_of, with_line, is_on}
use Rattle.gridded.specs.Grids.{Point, holds, letter_of, cell_of, same_cell, cells_in}
use Rattle.gridded.specs.Orders.{cells_of, gridded_eq}
use Rattle.gridded.specs.OrderLaws.{gridded_eq_decides}
use Rattle.tiling_core.specs.Tiles.{Tiles, is_member}
use Rattle.gridded.specs.Places.{fits_grid, touches}
use Rattle.gridded.specs.Small.{point_at}
use Rattle.tiling_core.specs.Patterns.{forbids, active_cells}
use Rattle.steps.specs.Steps.{sides, misses, is_blank, close_cell, close_up, without_line}
use Rattle.steps.proofs.ListTests.{each_passes, which_passes, none_passes, list_all-agree, list_any-agree, list_any-map}
use Rattle.gridded.proofs.Holding.{holds_from, same_cell_from, held_point}
use Rattle.steps.proofs.Members.{holds_none_of, meets_each}
use Rattle.tiling_core.proofs.Ordered.{is_member-tiling_of}
use Rattle.gridded.proofs.GriddedLists.{IsIn-cells_in}
use Rattle.gridded.proofs.Pairs.{holds_its_point}
use Rattle.steps.proofs.Moved.{holds-moved}
use Rattle.steps.proofs.Closing.{is_off_line, IsOff, closing_keeps, closed_below}

-- ---- points
-- a point in a cell is an occurrence of the point there
pub holds_point : (p : Point) {g : List Point} → IsIn p g → holds g (point_at p.cell) ≡ true
holds_point p {g = g} m = holds_its_point g p p.cell m refl

lower : (a b : ℕ) → nat_lt a b ≡ true → a < b
lower a b e = grind (arith, nat_tests)

pub cell_is_in : (w h : ℕ) (c : Cell) → (nat_lt c.x w && nat_lt c.y h) ≡ true → IsIn c (cells_in w h)
cell_is_in w h c e = let k = and_true (nat_lt c.x w) (nat_lt c.y h) e in IsIn-cells_in w h c (lower c.x w k.0, lower c.y h k.1)

pub cell_in_grid : (w h : ℕ) (g : List Point) (p : Point) → fits_grid w h g ≡ true → IsIn p g → (nat_lt p.cell.x w && nat_lt p.cell.y h) ≡ true
cell_in_grid w h g p e m = each_passes (λ (c : Cell). nat_lt c.x w && nat_lt c.y h) e (IsIn-map cell_of m)

-- no member has a point in a cell that is not active
pub point_is_active : (t : Tiles) (g : List Point) → fits_grid t.width t.height g ≡ true → holds_none_of t.obstructions g ≡ true → (p : Point) → IsIn p g → IsIn p.cell (active_cells t)
point_is_active t g f free_of p m =
    IsIn-filter (λ c. not (forbids t (point_at c))) (cell_is_in t.width t.height p.cell (cell_in_grid t.width t.height g p f m)) (free (forbids t (point_at p.cell)) refl)
  where
    free : (b : Bool) → forbids t (point_at p.cell) ≡ b → not (forbids t (point_at p.cell)) ≡ true
    free false e = not_false (forbids t (point_at p.cell)) e
    free true e =
        let w = which_passes (gridded_eq (point_at p.cell)) t.obstructions e in
        let same = (gridded_eq_decides (point_at p.cell) w.0).0 w.2 in
        let n = not_true (holds g w.0) (each_passes (λ q. not (holds g q)) free_of w.1) in
        let h : holds g w.0 ≡ true = rw (← same) (holds_point p m) in
        absurd cc

-- ---- a blank line
pub off_line : (a : Axis) (i : ℕ) (g : List Point) → misses a i g ≡ true → IsOff a i g
off_line a i g e p m = not_false (is_on a i p.cell) (none_passes (is_on a i) (cells_of g) (not_true (touches (is_on a i) g) e) (IsIn-map cell_of m))

pub fits_closed : (a : Axis) (i : ℕ) (t : Tiles) (g : List Point) → i < line_of a (sides t) → IsOff a i g
    → (let left = with_line a (line_of a (sides t) - 1) (sides t) in fits_grid left.x left.y (close_up a i g)) ≡ fits_grid t.width t.height g
fits_closed a i t [] b h = refl
fits_closed Column i t (p ∷ g) b h =
    rw (closed_below i p.cell.x t.width (h p here) b, fits_closed Column i t g b (λ q m. h q (later p m)))
fits_closed Row i t (p ∷ g) b h =
    rw (closed_below i p.cell.y t.height (h p here) b, fits_closed Row i t g b (λ q m. h q (later p m)))

module _ (a : Axis) (i : ℕ) (g : List Point) (off : IsOff a i g) where
  holds_closed : (p : List Point) → misses a i p ≡ true → holds (close_up a i g) (close_up a i p) ≡ holds g p
  holds_closed p e = holds-moved (close_cell a i) (is_off_line a i) (closing_keeps a i) g p off (off_line a i p e)

  -- what has a point on the line is not held
  not_held : (p : List Point) → misses a i p ≡ false → holds g p ≡ false
  not_held p e = go (holds g p) refl
    where
      touched : (b : Bool) → not b ≡ false → b ≡ true
      touched true f = refl
      touched false f = absurd cc

      go : (b : Bool) → holds g p ≡ b → holds g p ≡ false
      go false f = f
      go true f =
          let c = which_passes (is_on a i) (cells_of p) (touched (touches (is_on a i) p) e) in
          let q = from_IsIn-map cell_of p c.1 in
          let x = held_point g p f q.0 q.1 in
          let o = not_true (is_on a i x.0.cell) (off x.0 x.1) in
          let n : is_on a i x.0.cell ≡ true = rw (x.2, ← q.2) c.2 in
          absurd cc

  none_closed : (obstructions : List (List Point)) → holds_none_of (map (close_up a i) (filter (misses a i) obstructions)) (close_up a i g) ≡ holds_none_of obstructions g
  none_closed [] = refl
  none_closed (p ∷ obstructions) = go (misses a i p) refl (none_closed obstructions)
    where
      go : (b : Bool) → misses a i p ≡ b → holds_none_of (map (close_up a i) (filter (misses a i) obstructions)) (close_up a i g) ≡ holds_none_of obstructions g
          → holds_none_of (map (close_up a i) (cond b (p ∷ filter (misses a i) obstructions) (filter (misses a i) obstructions))) (close_up a i g) ≡ (not (holds g p) && holds_none_of obstructions g)
      go true e ih = rw (holds_closed p e, ih)
      go false e ih = rw (not_held p e) ih

  meets_closed : (lists : List (List (List Point))) → list_all (list_all (misses a i)) lists ≡ true → meets_each (map (map (close_up a i)) lists) (close_up a i g) ≡ meets_each lists g
  meets_closed lists e =
      list_all-map (λ patterns. list_any (λ p. holds (close_up a i g) p) patterns) (map (close_up a i)) lists
      ∙ list_all-agree (λ patterns. list_any (λ p. holds (close_up a i g) p) (map (close_up a i) patterns)) (λ patterns. list_any (λ p. holds g p) patterns) lists (λ patterns m.
      list_any-map (λ p. holds (close_up a i g) p) (close_up a i) patterns
      ∙ list_any-agree (λ p. holds (close_up a i g) (close_up a i p)) (λ p. holds g p) patterns (λ p n. holds_closed p (each_passes (misses a i) (each_passes (list_all (misses a i)) e m) n)))

pub record IsBlank (a : Axis) (i : ℕ) (t : Tiles) : Type 0 where
  pub there : i < line_of a (sides t)
  pub inactive : list_any (is_on a i) (active_cells t) ≡ false
  pub lists_miss : list_all (list_all (misses a i)) t.requirements ≡ true

pub blank_tells : (a : Axis) (i : ℕ) (t : Tiles) → is_blank a i t ≡ true → IsBlank a i t
blank_tells a i t e =
    let rest = list_all (λ g. (length g == 1) || misses a i g) t.obstructions in
    let k = and_true (nat_lt i (line_of a (sides t))) (not (list_any (is_on a i) (active_cells t)) && (rest && list_all (list_all (misses a i)) t.requirements)) e in
    let l = and_true (not (list_any (is_on a i) (active_cells t))) (rest && list_all (list_all (misses a i)) t.requirements) k.1 in
    record { there = lower i (line_of a (sides t)) k.0; inactive = not_true (list_any (is_on a i) (active_cells t)) l.0; lists_miss = (and_true rest (list_all (list_all (misses a i)) t.requirements) l.1).1 }

-- a member has no point on the line
pub member_is_off : (a : Axis) (i : ℕ) (t : Tiles) → IsBlank a i t → (g : List Point) → is_member t g ≡ true → IsOff a i g
member_is_off a i t b g e p m =
    let k = and_true (fits_grid t.width t.height g) (holds_none_of t.obstructions g && meets_each t.requirements g) e in
    let l = and_true (holds_none_of t.obstructions g) (meets_each t.requirements g) k.1 in
    not_false (is_on a i p.cell) (none_passes (is_on a i) (active_cells t) b.inactive (point_is_active t g k.0 l.0 p m))

-- what misses the line is a member exactly where it is one without the line
pub member_closed : (a : Axis) (i : ℕ) (t : Tiles) → IsBlank a i t → (g : List Point) → IsOff a i g → is_member (without_line a i t) (close_up a i g) ≡ is_member t g
member_closed a i t b g off =
    let left = with_line a (line_of a (sides t) - 1) (sides t) in
    is_member-tiling_of left.x left.y (map (close_up a i) (filter (misses a i) t.obstructions)) (map (map (close_up a i)) t.requirements) (close_up a i g)
    ∙ rw (fits_closed a i t g b.there off, none_closed a i g off t.obstructions, meets_closed a i g off t.requirements b.lists_miss)
