-- The cells of a line, and patterns that a line leaves.
use Rattle.std.proofs.Common.{◌≡◌, ◌<◌, ◌≤◌, ◌-◌, ◌+◌, ℕ, Bool, true, false, List, [], ◌∷◌, length, get_or, take, set, refl, sym, ap, ◌∙◌, arith, subst}
use Rattle.std.specs.Prelude.{not, map, nat_lt, All, IsTrue}
use Rattle.std.specs.List.{filter, list_any, list_all, range_with_len}
use Rattle.std.proofs.lemmas.Bool.Decides.{nat_tests, Decides-eqb}
use Rattle.std.proofs.lemmas.List.{length-map, take_more_set, map_more, take_all}
use Rattle.std.proofs.lemmas.Bool.{and_parts as and_true, and_from as both_true, not-true as not_true, not_from_false as not_false}
use Rattle.lists.specs.Members.IsIn.{here, later}
use Rattle.lists.specs.Members.{IsIn}
use Rattle.lists.proofs.Members.{from_IsIn-map, IsIn-filter, from_IsIn-filter, from_IsIn-flat_map}
use Rattle.lists.proofs.Ranges.{IsIn-range_with_len}
use Rattle.patterns.specs.Words.{has_no_repeats}
use Rattle.gridded.specs.declared.axis.Axis.{Axis}
use Rattle.gridded.specs.declared.axis.Axis.TheVariants.{Column, Row}
use Rattle.gridded.specs.declared.cell.Cell.{Cell}
use Rattle.gridded.specs.Axes.{line_of, across, with_line, is_on, cell_on}
use Rattle.gridded.specs.Grids.{Point, points, cells_in, cell_of, is_gridded, is_consistent, IsGridded, FitTogether}
use Rattle.gridded.specs.Orders.{letters_of, cells_of}
use Rattle.tiling_core.specs.Tiles.{Tiles, IsTiling, IsInGrid}
use Rattle.gridded.specs.Places.{fits_grid}
use Rattle.gridded.specs.Small.{point_at}
use Rattle.tiling_core.specs.Patterns.{forbids, active_cells}
use Rattle.gridded.specs.Moved.{move_cells}
use Rattle.steps.specs.Steps.{sides, misses, is_blank, close_cell, close_up}
use Rattle.steps.proofs.ListTests.{each_passes, some_passes, which_passes, at_each}
use Rattle.gridded.proofs.Holding.{is_true}
use Rattle.steps.proofs.Lines.{cell_is_in, off_line, fits_closed, blank_tells}
use Rattle.gridded.proofs.GriddedLists.{from_IsIn-cells_in}
use Rattle.steps.proofs.Closing.{is_off_line, closing_keeps}
use Rattle.steps.proofs.Moved.{gridded-moved}
use Rattle.steps.proofs.InGrid.{all_in}

-- ---- the cells of a line
below : (a b : ℕ) → nat_lt a b ≡ true → a < b
below a b e = grind (arith, nat_tests)

below_is : (a b : ℕ) → a < b → nat_lt a b ≡ true
below_is a b l = grind (arith, nat_tests)

-- a cell of the grid on a line is at some place of it
pub on_its_line : (a : Axis) (i : ℕ) (t : Tiles) (c : Cell) → IsIn c (cells_in t.width t.height) → is_on a i c ≡ true → (k : ℕ) × (k < line_of (across a) (sides t)) × (c ≡ cell_on a i k)
on_its_line Column i t c m e = let b = from_IsIn-cells_in t.width t.height c m in let f = (Decides-eqb c.x i).0 e in (c.y, b.1, (λ j. record { x = f j; y = c.y }))
on_its_line Row i t c m e = let b = from_IsIn-cells_in t.width t.height c m in let f = (Decides-eqb c.y i).0 e in (c.x, b.0, (λ j. record { x = c.x; y = f j }))

pub cell_on_is_in : (a : Axis) (i k : ℕ) (t : Tiles) → i < line_of a (sides t) → k < line_of (across a) (sides t) → IsIn (cell_on a i k) (cells_in t.width t.height)
cell_on_is_in Column i k t b l = cell_is_in t.width t.height (record { x = i; y = k }) (both_true (nat_lt i t.width) (nat_lt k t.height) (below_is i t.width b) (below_is k t.height l))
cell_on_is_in Row i k t b l = cell_is_in t.width t.height (record { x = k; y = i }) (both_true (nat_lt k t.width) (nat_lt i t.height) (below_is k t.width l) (below_is i t.height b))

pub cell_on_is_on : (a : Axis) (i k : ℕ) → is_on a i (cell_on a i k) ≡ true
cell_on_is_on Column i k = (Decides-eqb i i).1 refl
cell_on_is_on Row i k = (Decides-eqb i i).1 refl

pub all_forbidden : (a : Axis) (i : ℕ) (t : Tiles) → ((k : ℕ) → k < line_of (across a) (sides t) → forbids t (point_at (cell_on a i k)) ≡ true) → list_any (is_on a i) (active_cells t) ≡ false
all_forbidden a i t f = go (list_any (is_on a i) (active_cells t)) refl
  where
    go : (b : Bool) → list_any (is_on a i) (active_cells t) ≡ b → list_any (is_on a i) (active_cells t) ≡ false
    go false e = e
    go true e =
        let w = which_passes (is_on a i) (active_cells t) e in
        let k = from_IsIn-filter (λ c. not (forbids t (point_at c))) (cells_in t.width t.height) w.1 in
        let p = on_its_line a i t w.0 k.0 w.2 in
        let n = not_true (forbids t (point_at w.0)) k.1 in
        let y : forbids t (point_at w.0) ≡ true = subst (λ (c : Cell). forbids t (point_at c) ≡ true) (sym p.2) (f p.0 p.1) in
        absurd cc

pub one_active : (a : Axis) (i : ℕ) (t : Tiles) (k : ℕ) → i < line_of a (sides t) → k < line_of (across a) (sides t) → forbids t (point_at (cell_on a i k)) ≡ false → list_any (is_on a i) (active_cells t) ≡ true
one_active a i t k b l e =
    some_passes (is_on a i) (IsIn-filter (λ c. not (forbids t (point_at c))) (cell_on_is_in a i k t b l) (not_false (forbids t (point_at (cell_on a i k))) e)) (cell_on_is_on a i k)

pub ruleset on_line = (all_forbidden, one_active)

-- ---- closing up
points_moved : (f : Cell → Cell) (g : List Point) → points (letters_of g) (map f (cells_of g)) ≡ move_cells f g
points_moved f [] = refl
points_moved f (p ∷ g) = ap (λ rest. record { letter = p.letter; cell = f p.cell } ∷ rest) (points_moved f g)

letters_under : (n : ℕ) (f : Cell → Cell) (g : List Point) → ((p : Point) → IsIn p g → p.letter < n) → (p : Point) → IsIn p (move_cells f g) → p.letter < n
letters_under n f [] k p m = elim m [ ]
letters_under n f (q ∷ g) k _ here = k q here
letters_under n f (q ∷ g) k p (later _ m) = letters_under n f g (λ r i. k r (later q i)) p m

truth : (b : Bool) → b ≡ true → IsTrue b
truth true e = refl
truth false e = e

moved_is_gridded : (f : Cell → Cell) (g : List Point) → IsGridded g → is_gridded (move_cells f g) ≡ true → IsGridded (move_cells f g)
moved_is_gridded f g k e =
    let m = move_cells f g in
    let n : length m ≡ length g = length-map g (λ p. record { letter = p.letter; cell = f p.cell }) in
    let a = and_true (has_no_repeats (letters_of m)) (is_consistent m) e in
    record {
      short = rw n k.short;
      below = all_in (λ (p : Point). p.letter < length m) m (letters_under (length m) f g (λ p i. rw n (at_each (λ (q : Point). q.letter < length g) k.below i)));
      distinct = truth (has_no_repeats (letters_of m)) a.0;
      consistent = truth (is_consistent m) a.1;
    }

pub closed_is_gridded : (a : Axis) (i : ℕ) (g : List Point) → IsGridded g → misses a i g ≡ true → IsGridded (close_up a i g)
closed_is_gridded a i g k e =
    moved_is_gridded (close_cell a i) g k (gridded-moved (close_cell a i) (is_off_line a i) (closing_keeps a i) g (off_line a i g e)
    ∙ both_true (has_no_repeats (letters_of g)) (is_consistent g) (is_true _ k.distinct) (is_true _ k.consistent))

pub closed_together : (a : Axis) (i : ℕ) (g : List Point) → IsGridded g → misses a i g ≡ true → FitTogether (letters_of g) (map (close_cell a i) (cells_of g))
closed_together a i g k e = record {
  as_many = length-map g (λ p. p.letter) ∙ sym (length-map (cells_of g) (close_cell a i) ∙ length-map g cell_of);
  gridded = rw (points_moved (close_cell a i) g) (closed_is_gridded a i g k e);
}

pub closed_points : (a : Axis) (i : ℕ) (g : List Point) → points (letters_of g) (map (close_cell a i) (cells_of g)) ≡ close_up a i g
closed_points a i g = points_moved (close_cell a i) g

pub ruleset closing = (closed_together, closed_points)

-- ---- lists
pub filter-all : {X : Type 0} (test : X → Bool) (xs : List X) → list_all test xs ≡ true → filter test xs ≡ xs
filter-all test [] e = refl
filter-all test (x ∷ xs) e = let k = and_true (test x) (list_all test xs) e in rw k.0 (ap (λ r. x ∷ r) (filter-all test xs k.1))

pub lists_closed : (a : Axis) (i : ℕ) (lists : List (List (List Point))) → list_all (list_all (misses a i)) lists ≡ true
    → map (λ patterns. map (close_up a i) (filter (misses a i) patterns)) lists ≡ map (map (close_up a i)) lists
lists_closed a i [] e = refl
lists_closed a i (patterns ∷ lists) e =
    let k = and_true (list_all (misses a i) patterns) (list_all (list_all (misses a i)) lists) e in
    rw (filter-all (misses a i) patterns k.0, lists_closed a i lists k.1) refl

-- ---- what is left lies in the smaller grid
closed_in : (a : Axis) (i : ℕ) (t : Tiles) → i < line_of a (sides t) → (g : List Point) → misses a i g ≡ true → fits_grid t.width t.height g ≡ true
    → (let left = with_line a (line_of a (sides t) - 1) (sides t) in fits_grid left.x left.y (close_up a i g) ≡ true)
closed_in a i t b g e f = fits_closed a i t g b (off_line a i g e) ∙ f

pub obstructions_closed_in : (a : Axis) (i : ℕ) (t : Tiles) → IsTiling t → is_blank a i t ≡ true
    → (let left = with_line a (line_of a (sides t) - 1) (sides t) in IsInGrid left.x left.y (map (close_up a i) (filter (misses a i) t.obstructions)))
obstructions_closed_in a i t k e =
    let left = with_line a (line_of a (sides t) - 1) (sides t) in
    all_in (λ g. fits_grid left.x left.y g ≡ true) (map (close_up a i) (filter (misses a i) t.obstructions)) (λ g m. each g (from_IsIn-map (close_up a i) (filter (misses a i) t.obstructions) m))
  where
    each : (g : List Point) → (p : List Point) × IsIn p (filter (misses a i) t.obstructions) × (g ≡ close_up a i p) → (let left = with_line a (line_of a (sides t) - 1) (sides t) in fits_grid left.x left.y g ≡ true)
    each g p =
        let left = with_line a (line_of a (sides t) - 1) (sides t) in
        let q = from_IsIn-filter (misses a i) t.obstructions p.1 in
        subst (λ (h : List Point). fits_grid left.x left.y h ≡ true) (sym p.2) (closed_in a i t (blank_tells a i t e).there p.0 q.1 (at_each (λ h. fits_grid t.width t.height h ≡ true) k.obstructions_in q.0))

pub lists_closed_in : (a : Axis) (i : ℕ) (t : Tiles) → IsTiling t → is_blank a i t ≡ true
    → (let left = with_line a (line_of a (sides t) - 1) (sides t) in All (λ patterns. IsInGrid left.x left.y patterns) (map (map (close_up a i)) t.requirements))
lists_closed_in a i t k e =
    let left = with_line a (line_of a (sides t) - 1) (sides t) in
    all_in (λ patterns. IsInGrid left.x left.y patterns) (map (map (close_up a i)) t.requirements) (λ patterns m. every patterns (from_IsIn-map (map (close_up a i)) t.requirements m))
  where
    one : (qs : List (List Point)) → IsIn qs t.requirements → (g : List Point) → (p : List Point) × IsIn p qs × (g ≡ close_up a i p) → (let left = with_line a (line_of a (sides t) - 1) (sides t) in fits_grid left.x left.y g ≡ true)
    one qs m g p =
        let left = with_line a (line_of a (sides t) - 1) (sides t) in
        let b = blank_tells a i t e in
        let miss = each_passes (misses a i) (each_passes (list_all (misses a i)) b.lists_miss m) p.1 in
        let inside = at_each (λ h. fits_grid t.width t.height h ≡ true) (at_each (λ ps. IsInGrid t.width t.height ps) k.requirements_in m) p.1 in
        subst (λ (h : List Point). fits_grid left.x left.y h ≡ true) (sym p.2) (closed_in a i t b.there p.0 miss inside)

    every : (patterns : List (List Point)) → (qs : List (List Point)) × IsIn qs t.requirements × (patterns ≡ map (close_up a i) qs) → (let left = with_line a (line_of a (sides t) - 1) (sides t) in IsInGrid left.x left.y patterns)
    every patterns qs =
        let left = with_line a (line_of a (sides t) - 1) (sides t) in
        subst (λ (ps : List (List Point)). IsInGrid left.x left.y ps) (sym qs.2)
        (all_in (λ g. fits_grid left.x left.y g ≡ true) (map (close_up a i) qs.0) (λ g m. one qs.0 qs.1 g (from_IsIn-map (close_up a i) qs.0 m)))

-- ---- cells, one place after another
pub moved_step : (f : Cell → Cell) (old cells : List Cell) (i : ℕ) (d : Cell) → i < length cells → i < length old → take i cells ≡ map f (take i old) → take (i + 1) (set cells i (f (get_or old i d))) ≡ map f (take (i + 1) old)
moved_step f old cells i d h k e = take_more_set cells i (f (get_or old i d)) h ∙ rw e (sym (map_more f old i d k))

pub cells_short : (g : List Point) (old : List Cell) → old ≡ cells_of g → length g ≤ 9 → length old ≤ 9
cells_short g old e h = let l : length (cells_of g) ≡ length g = length-map g cell_of in rw e (omega arith)

pub all_moved : (f : Cell → Cell) (old cells : List Cell) (i : ℕ) → length old ≤ i → i ≤ length old → take i cells ≡ map f (take i old) → take (length old) cells ≡ map f old
all_moved f old cells i h k e = let s : i ≡ length old = omega arith in rw s at e ∙ ap (λ l. map f l) (take_all (length old) old (omega arith))
