-- The active cells.
use Rattle.std.proofs.Common.{◌≡◌, ◌<◌, ◌≤◌, ◌+◌, ◌-◌, ◌/◌, ◌%◌, ℕ, Bool, true, false, cond, List, [], ◌∷◌, ◌++◌, length, get_or, take, refl, sym, ap, ◌∙◌, arith, append-nil}
use Rattle.std.specs.Prelude.{◌&&◌, ◌||◌, ◌↔◌, not, map, nat_lt, nat_eq, slice_index_or, Decides}
use Rattle.std.specs.List.{filter, flat_map, range_with_len}
use Rattle.std.proofs.lemmas.Bool.Decides.{nat_tests}
use Rattle.std.proofs.lemmas.List.Elements.{filter-append, All-head}
use Rattle.std.proofs.lemmas.List.Folds.{list_any_more}
use Rattle.std.proofs.lemmas.Grind.{flat_map-append}
use Rattle.std.proofs.lemmas.List.{map-append}
use Rattle.std.proofs.lemmas.Bool.{false_from_ne_true, not_from_false}
use Rattle.std.proofs.Math.Bool.{and-true, and-false, or-false}
use Rattle.lists.specs.Members.IsIn.{here, later}
use Rattle.lists.proofs.Maps.{flat_map-agree}
use Rattle.lists.proofs.Ranges.{range_split, IsIn-range_with_len}
use Rattle.lists.proofs.Filters.{filter-flat_map, filter-none}
use Rattle.lists.proofs.Tests.{which_passes, some_passes}
use Rattle.lists.specs.Members.{IsIn}
use Rattle.lists.proofs.Members.{from_IsIn-map, IsIn-filter, from_IsIn-filter}
use Rattle.gridded.specs.declared.cell.Cell.{Cell}
use Rattle.gridded.specs.Grids.{Point, IsGridded, cells_in}
use Rattle.gridded.specs.Laws.{IsCellOf}
use Rattle.gridded.specs.Orders.{cell_eq, cells_of, gridded_eq}
use Rattle.gridded.specs.OrderLaws.{cell_eq_decides, gridded_eq_decides}
use Rattle.gridded.specs.CellSets.{cells_that, is_among as has_cell, IsCellSet, with_cell, bit_of}
use Rattle.gridded.proofs.CellSets.{agree_on_cells, is_among-cells_that, IsCellSet-cells_that}
use Rattle.gridded.proofs.GriddedLists.{IsIn-cells_in, from_IsIn-cells_in}
use Rattle.tiling_core.specs.Tiles.{Tiles, IsInGrid}
use Rattle.gridded.specs.Places.{fits_grid}
use Rattle.gridded.specs.Small.{point_at}
use Rattle.tiling_core.specs.Patterns.{is_among, forbids, active_cells, is_free, IsActive}
use Rattle.tiling_core.proofs.Deciding.{fits_grid_decides, not_held}

-- ---- sets of cells
pub same_set : (p q : Cell → Bool) → ((c : Cell) → IsCellOf 8 8 c → p c ≡ q c) → cells_that p ≡ cells_that q
unfolding cells_that
same_set p q f = agree_on_cells p q (cells_in 8 8) (λ c m. f c (from_IsIn-cells_in 8 8 c m))

-- ---- a grid within the grid of 8 columns and 8 rows
flat_map-none : (f : ℕ → List Cell) (xs : List ℕ) → ((x : ℕ) → IsIn x xs → f x ≡ []) → flat_map f xs ≡ []
flat_map-none f [] h = refl
flat_map-none f (x ∷ xs) h = rw (h x here, flat_map-none f xs (λ z m. h z (later x m))) refl

abbrev column : ℕ → ℕ → List Cell
column n x = map (λ y. record { x = x; y = y }) (range_with_len 0 n)

abbrev within : ℕ → ℕ → (Cell → Bool) → Cell → Bool
within w h p c = nat_lt c.x w && nat_lt c.y h && p c

is_below : (a b : ℕ) → a < b → nat_lt a b ≡ true
is_below a b l = grind (arith, nat_tests)

not_below : (a b : ℕ) → b ≤ a → nat_lt a b ≡ false
not_below a b l = grind (arith, nat_tests)

column_within : (w h x : ℕ) (p : Cell → Bool) → h ≤ 8 → filter (within w h p) (column 8 x) ≡ cond (nat_lt x w) (filter p (column h x)) []
column_within w h x p l =
    let e : 8 ≡ h + (8 - h) = omega arith in
    ap (λ n. filter q (map at (range_with_len 0 n))) e
    ∙ ap (λ ys. filter q (map at ys)) (range_split 0 h (8 - h))
    ∙ ap (λ cells. filter q cells) (map-append at (range_with_len 0 h) (range_with_len (0 + h) (8 - h)))
    ∙ filter-append q (column h x) (map at (range_with_len (0 + h) (8 - h)))
    ∙ ap (λ cells. filter q (column h x) ++ cells) (filter-none q (map at (range_with_len (0 + h) (8 - h))) above)
    ∙ append-nil (filter q (column h x))
    ∙ go (nat_lt x w) refl
  where
    at : ℕ → Cell
    at y = record { x = x; y = y }

    q : Cell → Bool
    q = within w h p

    above : (c : Cell) → IsIn c (map at (range_with_len (0 + h) (8 - h))) → q c ≡ false
    above c m =
        let a = from_IsIn-map at (range_with_len (0 + h) (8 - h)) m in
        let high = (IsIn-range_with_len (0 + h) (8 - h) a.0 a.1).0 in
        rw (a.2, not_below a.0 h (omega arith), and-false (nat_lt x w)) refl

    go : (b : Bool) → nat_lt x w ≡ b → filter q (column h x) ≡ cond b (filter p (column h x)) []
    go true f = agree_on_cells q p (column h x) (λ c m.
        let a = from_IsIn-map at (range_with_len 0 h) m in
        let low = (IsIn-range_with_len 0 h a.0 a.1).1 in
        rw (a.2, f, is_below a.0 h (omega arith)) refl)
    go false f = filter-none q (column h x) (λ c m. let a = from_IsIn-map at (range_with_len 0 h) m in rw (a.2, f) refl)

pub cells_within : (w h : ℕ) (p : Cell → Bool) → w ≤ 8 → h ≤ 8 → cells_that (within w h p) ≡ filter p (cells_in w h)
unfolding cells_that
cells_within w h p k l =
    let e : 8 ≡ w + (8 - w) = omega arith in
    filter-flat_map (within w h p) (column 8) (range_with_len 0 8)
    ∙ flat_map-agree (λ x. filter (within w h p) (column 8 x)) columns (range_with_len 0 8) (λ x m. column_within w h x p l)
    ∙ ap (λ n. flat_map columns (range_with_len 0 n)) e
    ∙ ap (λ xs. flat_map columns xs) (range_split 0 w (8 - w))
    ∙ flat_map-append columns (range_with_len 0 w) (range_with_len (0 + w) (8 - w))
    ∙ ap (λ cells. flat_map columns (range_with_len 0 w) ++ cells) (flat_map-none columns (range_with_len (0 + w) (8 - w)) (λ x m.
    let far = (IsIn-range_with_len (0 + w) (8 - w) x m).0 in rw (not_below x w (omega arith)) refl))
    ∙ append-nil (flat_map columns (range_with_len 0 w))
    ∙ flat_map-agree columns (λ x. filter p (column h x)) (range_with_len 0 w) (λ x m. let near = (IsIn-range_with_len 0 w x m).1 in rw (is_below x w (omega arith)) refl)
    ∙ sym (filter-flat_map p (column h) (range_with_len 0 w))
  where
    columns : ℕ → List Cell
    columns x = cond (nat_lt x w) (filter p (column h x)) []

-- ---- one more cell
or_comm : (a b : Bool) → (a || b) ≡ (b || a)
or_comm true true = refl
or_comm true false = refl
or_comm false b = sym (or-false b)

pub wanted_cell : (set : List Cell) (cell : Cell) → with_cell set cell ≡ cells_that (λ c. has_cell set c || (cell_eq c cell && true))
wanted_cell set cell = same_set (λ c. cell_eq c cell || has_cell set c) (λ c. has_cell set c || (cell_eq c cell && true)) (λ c k. or_comm (cell_eq c cell) (has_cell set c) ∙ ap (λ b. has_cell set c || b) (sym (and-true (cell_eq c cell))))

pub unwanted_cell : (set : List Cell) (cell : Cell) → IsCellSet set → set ≡ cells_that (λ c. has_cell set c || (cell_eq c cell && false))
unwanted_cell set cell s = s ∙ same_set (λ c. has_cell set c) (λ c. has_cell set c || (cell_eq c cell && false)) (λ c k. sym (ap (λ b. has_cell set c || b) (and-false (cell_eq c cell)) ∙ or-false (has_cell set c)))

pub ruleset wanting = (wanted_cell, unwanted_cell)

-- ---- the cells of one-point patterns
pub one_point : (set : List Cell) (g : List Point) (d : Cell) → IsGridded g → length g ≡ 1 → with_cell set (get_or (cells_of g) 0 d) ≡ cells_that (λ c. has_cell set c || gridded_eq (point_at c) g)
one_point set [] d k e = absurd (omega arith)
one_point set (p ∷ q ∷ g) d k e = absurd (omega arith)
one_point set (p ∷ []) d k e =
    let low : p.letter < 1 = All-head (λ (q : Point). q.letter < 1) p [] k.below in
    let first : p.letter ≡ 0 = omega arith in
    same_set (λ c. cell_eq c p.cell || has_cell set c) (λ c. has_cell set c || gridded_eq (point_at c) (p ∷ []))
    (λ c m. or_comm (cell_eq c p.cell) (has_cell set c) ∙ ap (λ b. has_cell set c || b) (sym (ap (λ l. nat_eq 0 l && true && (cell_eq c p.cell && true)) first ∙ and-true (cell_eq c p.cell))))

-- one more pattern
more_points : (patterns : List (List Point)) (i : ℕ) (d : List Point) (cells : List Cell) → i < length patterns → cells ≡ cells_that (λ c. is_among (take i patterns) (point_at c))
    → cells_that (λ c. has_cell cells c || gridded_eq (point_at c) (get_or patterns i d)) ≡ cells_that (λ c. is_among (take (i + 1) patterns) (point_at c))
more_points patterns i d cells l e =
    same_set (λ c. has_cell cells c || gridded_eq (point_at c) (get_or patterns i d)) (λ c. is_among (take (i + 1) patterns) (point_at c))
    (λ c k. ap (λ b. b || gridded_eq (point_at c) (get_or patterns i d)) (ap (λ set. has_cell set c) e ∙ is_among-cells_that (λ x. is_among (take i patterns) (point_at x)) c k)
    ∙ sym (list_any_more (gridded_eq (point_at c)) patterns i d l))

pub one_more_pattern : (patterns : List (List Point)) (i : ℕ) (item : List Point) (cells : List Cell) → i < length patterns → item ≡ get_or patterns i item → cells ≡ cells_that (λ c. is_among (take i patterns) (point_at c))
    → cells_that (λ c. has_cell cells c || gridded_eq (point_at c) item) ≡ cells_that (λ c. is_among (take (i + 1) patterns) (point_at c))
one_more_pattern patterns i item cells l is e = ap (λ (g : List Point). cells_that (λ c. has_cell cells c || gridded_eq (point_at c) g)) is ∙ more_points patterns i item cells l e

pub is_set_from : (p : Cell → Bool) (set : List Cell) → set ≡ cells_that p → IsCellSet set
is_set_from p set e = rw e (IsCellSet-cells_that p)

-- a grid lies in that of 8 columns and 8 rows
pub in_wider_grid : (w h : ℕ) (patterns : List (List Point)) → w ≤ 8 → h ≤ 8 → IsInGrid w h patterns → IsInGrid 8 8 patterns
in_wider_grid w h patterns k l f = λ i d m. wider (slice_index_or patterns i d) (f i d m)
  where
    wider : (g : List Point) → fits_grid w h g ≡ true → fits_grid 8 8 g ≡ true
    wider g e = (fits_grid_decides 8 8 g).1 (λ p m. let a = (fits_grid_decides w h g).0 e p m in (omega (arith, a.0), omega (arith, a.1)))

-- ---- the cells by their numbers
cell_numbered : (c : Cell) (number : ℕ) → c.y < 8 → bit_of c ≡ number → (c.x ≡ number / 8) × (c.y ≡ number % 8)
cell_numbered c number l e = (omega arith, omega arith)

unless_equal : (a b : ℕ) → ¬ (a ≡ b) → nat_lt a b ≡ nat_lt a (b + 1)
unless_equal a b d = grind (arith, nat_tests)

pub one_more_number : (free : Cell → Bool) (number : ℕ) (set : List Cell) (cell : Cell) (wanted : Bool) → cell.x ≡ number / 8 → cell.y ≡ number % 8 → wanted ≡ free cell → set ≡ cells_that (λ c. nat_lt (bit_of c) number && free c)
    → cells_that (λ c. has_cell set c || (cell_eq c cell && wanted)) ≡ cells_that (λ c. nat_lt (bit_of c) (number + 1) && free c)
one_more_number free number set cell wanted x y w e =
    same_set (λ c. has_cell set c || (cell_eq c cell && wanted)) (λ c. nat_lt (bit_of c) (number + 1) && free c)
    (λ c k. ap (λ b. b || (cell_eq c cell && wanted)) (ap (λ s. has_cell s c) e ∙ is_among-cells_that (λ d. nat_lt (bit_of d) number && free d) c k) ∙ go c k (cell_eq c cell) refl)
  where
    go : (c : Cell) → IsCellOf 8 8 c → (b : Bool) → cell_eq c cell ≡ b → ((nat_lt (bit_of c) number && free c) || (b && wanted)) ≡ (nat_lt (bit_of c) (number + 1) && free c)
    go c k true f =
        let same = (cell_eq_decides c cell).0 f in
        let here_it_is : bit_of c ≡ number = omega (arith, ap (λ (d : Cell). d.x) same, ap (λ (d : Cell). d.y) same) in
        rw (not_below (bit_of c) number (omega arith), is_below (bit_of c) (number + 1) (omega arith)) (w ∙ ap free (sym same))
    go c k false f =
        let other : ¬ (bit_of c ≡ number) = λ s. let n = cell_numbered c number k.1 s in differ (cell_eq c cell) f ((cell_eq_decides c cell).1 (λ i. record { x = (n.0 ∙ sym x) i; y = (n.1 ∙ sym y) i })) in
        or-false (nat_lt (bit_of c) number && free c) ∙ ap (λ b. b && free c) (unless_equal (bit_of c) number other)
      where
        differ : (b : Bool) → b ≡ false → b ≡ true → ⊥
        differ true e f = cc
        differ false e f = cc

-- all numbers seen
pub active_from_numbers : (t : Tiles) (forbidden set : List Cell) (number : ℕ) → number ≡ 64 → t.width ≤ 8 → t.height ≤ 8 → forbidden ≡ cells_that (λ c. is_among t.obstructions (point_at c)) → set ≡ cells_that (λ c. nat_lt (bit_of c) number && is_free t.width t.height forbidden c) → set ≡ active_cells t
active_from_numbers t forbidden set number last k l e f =
    f
    ∙ ap (λ n. cells_that (λ c. nat_lt (bit_of c) n && is_free t.width t.height forbidden c)) last
    ∙ same_set (λ c. nat_lt (bit_of c) 64 && is_free t.width t.height forbidden c) (within t.width t.height (λ c. not (forbids t (point_at c))))
    (λ c m. rw (is_below (bit_of c) 64 (omega (arith, m.0, m.1))) (ap (λ b. nat_lt c.x t.width && nat_lt c.y t.height && not b) (ap (λ s. has_cell s c) e ∙ is_among-cells_that (λ d. is_among t.obstructions (point_at d)) c m)))
    ∙ cells_within t.width t.height (λ c. not (forbids t (point_at c))) k l

pub among_decides : (patterns : List (List Point)) (g : List Point) → Decides (is_among patterns g) (IsIn g patterns)
among_decides patterns g = (
  (λ e. let k = which_passes (gridded_eq g) patterns e in let same = (gridded_eq_decides g k.0).0 k.2 in rw same k.1),
  (λ m. some_passes (gridded_eq g) m ((gridded_eq_decides g g).1 refl)),
)

pub active_cells_are_active : (t : Tiles) (c : Cell) → IsIn c (active_cells t) ↔ IsActive t c
active_cells_are_active t c = (
  (λ m. let a = from_IsIn-filter (λ d. not (forbids t (point_at d))) (cells_in t.width t.height) m in record {
    in_grid = from_IsIn-cells_in t.width t.height c a.0;
    free = λ n. not_held (forbids t (point_at c)) a.1 ((among_decides t.obstructions (point_at c)).1 n);
  }),
  (λ k. IsIn-filter (λ d. not (forbids t (point_at d))) (IsIn-cells_in t.width t.height c k.in_grid) (not_from_false (forbids t (point_at c)) (false_from_ne_true (forbids t (point_at c)) (λ e. k.free ((among_decides t.obstructions (point_at c)).0 e))))),
)
