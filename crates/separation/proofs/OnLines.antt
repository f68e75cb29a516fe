-- Sets of cells of one line, and the line's places.
use Rattle.std.proofs.Common.{◌≡◌, ◌<◌, ◌≤◌, ◌+◌, ℕ, zero, suc, Bool, true, false, cond, List, [], ◌∷◌, length, refl, sym, ap, ◌∙◌, subst, arith}
use Rattle.std.specs.Prelude.{◌&&◌, ◌||◌, ◌==◌, nat_lt, not, map, filter}
use Rattle.std.specs.List.{list_all, range_with_len}
use Rattle.std.proofs.lemmas.Bool.Decides.{nat_tests, Decides-eqb}
use Rattle.std.proofs.lemmas.Bool.{and_parts}
use Rattle.std.proofs.Math.Bool.{and-true, and-false, or-false}
use Rattle.lists.specs.Members.{IsIn, NoRepeats}
use Rattle.lists.specs.Members.IsIn.{here, later}
use Rattle.lists.specs.Members.NoRepeats.{no_element, one_more}
use Rattle.lists.proofs.Members.{from_IsIn-filter}
use Rattle.lists.proofs.Filters.{filter-filter, filter-none, filter-agree}
use Rattle.lists.proofs.Tests.{same_test, each_passes, all_pass, and_regroup}
use Rattle.gridded.specs.declared.axis.Axis.{Axis}
use Rattle.gridded.specs.declared.axis.Axis.TheVariants.{Column, Row}
use Rattle.gridded.specs.declared.cell.Cell.{Cell}
use Rattle.gridded.specs.Axes.{line_of, across, is_on, cell_on}
use Rattle.gridded.specs.Grids.{cells_in}
use Rattle.gridded.specs.Laws.{IsCellOf}
use Rattle.gridded.specs.Orders.{cell_eq}
use Rattle.gridded.specs.OrderLaws.{cell_eq_decides}
use Rattle.gridded.specs.CellSets.{cells_that, is_among as has_cell, with_cell, IsCellSet}
use Rattle.gridded.specs.CellSetOrder.{set_eq, set_eq_decides}
use Rattle.gridded.proofs.CellSets.{is_among-cells_that, in_set}
use Rattle.gridded.proofs.GriddedLists.{IsIn-cells_in, from_IsIn-cells_in, NoRepeats-cells_in}
use Rattle.tiling_core.specs.Tiles.{Tiles, IsTiling}
use Rattle.tiling_core.specs.Patterns.{active_cells, forbids}
use Rattle.gridded.specs.Small.{point_at}
use Rattle.tiling_core.proofs.GridCells.{same_set, cells_within, is_set_from}
use Rattle.rule_kinds.specs.Lines.{active_on}
use Rattle.rule_kinds.specs.Conditions.{is_proper_part}
use Rattle.lists.specs.Members.{is_nil}
use Rattle.separation.specs.OnLines.{IsOfLine, wanted_with}

-- ---- the places of a line, one after another
-- the cells at the first k places of line i that pass a test
abbrev pub first_places : Axis → ℕ → ℕ → (Cell → Bool) → List Cell
first_places a i k test = cells_that (λ c. is_on a i c && (nat_lt (line_of (across a) c) k && test c))

not_below : (n k : ℕ) → k ≤ n → nat_lt n k ≡ false
not_below n k l = grind (arith, nat_tests)

is_below : (n k : ℕ) → n < k → nat_lt n k ≡ true
is_below n k l = grind (arith, nat_tests)

unless_equal : (n k : ℕ) → (n == k) ≡ false → nat_lt n k ≡ nat_lt n (k + 1)
unless_equal n k e = grind (arith, nat_tests)

no_test : (p q : Bool) → q ≡ false → (p && q) ≡ false
no_test p q e = rw e (and-false p)

pub no_places : (a : Axis) (i : ℕ) (test : Cell → Bool) → [] ≡ first_places a i 0 test
unfolding cells_that
no_places a i test =
    sym (filter-none (λ c. is_on a i c && (nat_lt (line_of (across a) c) 0 && test c)) (cells_in 8 8)
    (λ c m. no_test (is_on a i c) (nat_lt (line_of (across a) c) 0 && test c) (rw (not_below (line_of (across a) c) 0 (omega arith)) refl)))

-- a cell by its line and its place
cell_numbers : (a : Axis) (i k : ℕ) (c : Cell) → cell_eq c (cell_on a i k) ≡ (is_on a i c && (line_of (across a) c == k))
cell_numbers Column i k c = refl
cell_numbers Row i k c = swap (c.x == k) (c.y == i)
  where
    swap : (p q : Bool) → (p && q) ≡ (q && p)
    swap true true = refl
    swap true false = refl
    swap false true = refl
    swap false false = refl

pub cell_of_numbers : (a : Axis) (c : Cell) → c ≡ cell_on a (line_of a c) (line_of (across a) c)
cell_of_numbers Column c = refl
cell_of_numbers Row c = refl

-- one place more
place_more : (a : Axis) (i k : ℕ) (test : Cell → Bool) (c : Cell) → ((cell_eq c (cell_on a i k) && test (cell_on a i k)) || (is_on a i c && (nat_lt (line_of (across a) c) k && test c))) ≡ (is_on a i c && (nat_lt (line_of (across a) c) (k + 1) && test c))
place_more a i k test c = rw (cell_numbers a i k c) (go (is_on a i c) refl (line_of (across a) c == k) refl)
  where
    go : (p : Bool) → is_on a i c ≡ p → (q : Bool) → (line_of (across a) c == k) ≡ q → (((p && q) && test (cell_on a i k)) || (p && (nat_lt (line_of (across a) c) k && test c))) ≡ (p && (nat_lt (line_of (across a) c) (k + 1) && test c))
    go false e q f = refl
    go true e false f = ap (λ b. b && test c) (unless_equal (line_of (across a) c) k f)
    go true e true f =
        let line : line_of a c ≡ i = (Decides-eqb (line_of a c) i).0 e in
        let place : line_of (across a) c ≡ k = (Decides-eqb (line_of (across a) c) k).0 f in
        let here_it_is : cell_on a i k ≡ c = (λ j. cell_on a (sym line j) (sym place j)) ∙ sym (cell_of_numbers a c) in
        rw (not_below (line_of (across a) c) k (omega arith), is_below (line_of (across a) c) (k + 1) (omega arith), here_it_is) (or-false (test c))

pub with_place : (a : Axis) (i k : ℕ) (test : Cell → Bool) (set : List Cell) (cell : Cell) → cell ≡ cell_on a i k → test cell ≡ true → set ≡ first_places a i k test → with_cell set cell ≡ first_places a i (k + 1) test
with_place a i k test set cell at e f =
    same_set (λ c. cell_eq c cell || has_cell set c) (λ c. is_on a i c && (nat_lt (line_of (across a) c) (k + 1) && test c))
    (λ c m. ap (λ b. cell_eq c cell || b) (ap (λ s. has_cell s c) f ∙ is_among-cells_that (λ d. is_on a i d && (nat_lt (line_of (across a) d) k && test d)) c m)
    ∙ ap (λ b. b || (is_on a i c && (nat_lt (line_of (across a) c) k && test c))) (sym (ap (λ b. cell_eq c cell && b) e ∙ and-true (cell_eq c cell)) ∙ ap (λ d. cell_eq c d && test d) at)
    ∙ place_more a i k test c)

pub without_place : (a : Axis) (i k : ℕ) (test : Cell → Bool) (set : List Cell) (cell : Cell) → cell ≡ cell_on a i k → test cell ≡ false → set ≡ first_places a i k test → set ≡ first_places a i (k + 1) test
without_place a i k test set cell at e f =
    f ∙ same_set (λ c. is_on a i c && (nat_lt (line_of (across a) c) k && test c)) (λ c. is_on a i c && (nat_lt (line_of (across a) c) (k + 1) && test c))
    (λ c m. ap (λ b. b || (is_on a i c && (nat_lt (line_of (across a) c) k && test c))) (sym (no_test (cell_eq c (cell_on a i k)) (test (cell_on a i k)) (ap test (sym at) ∙ e)))
    ∙ place_more a i k test c)

-- the next place, where a test tells whether its cell is wanted
pub next_place : (a : Axis) (i k : ℕ) (test : Cell → Bool) (set next : List Cell) (cell : Cell) (wanted : Bool) → cell ≡ cell_on a i k → wanted ≡ test cell → set ≡ first_places a i k test → next ≡ wanted_with set cell wanted → next ≡ first_places a i (k + 1) test
next_place a i k test set next cell true at e f n = n ∙ with_place a i k test set cell at (sym e) f
next_place a i k test set next cell false at e f n = n ∙ without_place a i k test set cell at (sym e) f

pub all_places : (a : Axis) (i k : ℕ) (test : Cell → Bool) (set : List Cell) → 8 ≤ k → set ≡ first_places a i k test → set ≡ cells_that (λ c. is_on a i c && test c)
all_places a i k test set l f =
    f ∙ same_set (λ c. is_on a i c && (nat_lt (line_of (across a) c) k && test c)) (λ c. is_on a i c && test c)
    (λ c m. ap (λ b. is_on a i c && (b && test c)) (is_below (line_of (across a) c) k (near a c m)))
  where
    near : (x : Axis) (c : Cell) → IsCellOf 8 8 c → line_of (across x) c < k
    near Column c m = omega (arith, m.1)
    near Row c m = omega (arith, m.0)

-- ---- sets of one line
pub of_line_that : (a : Axis) (i : ℕ) (test : Cell → Bool) (set : List Cell) → set ≡ cells_that (λ c. is_on a i c && test c) → IsOfLine a i set
of_line_that a i test set e =
    e ∙ same_set (λ c. is_on a i c && test c) (λ c. is_on a i c && has_cell set c)
    (λ c m. sym (ap (λ b. is_on a i c && b) (ap (λ s. has_cell s c) e ∙ is_among-cells_that (λ d. is_on a i d && test d) c m) ∙ twice (is_on a i c) (test c)))
  where
    twice : (p q : Bool) → (p && (p && q)) ≡ (p && q)
    twice true q = refl
    twice false q = refl

-- what is in such a set passes both tests
pub in_of_line : (a : Axis) (i : ℕ) (set : List Cell) (c : Cell) → IsOfLine a i set → IsIn c set → IsIn c (cells_in 8 8) × (is_on a i c ≡ true) × (has_cell set c ≡ true)
unfolding cells_that
in_of_line a i set c s m =
    let k = from_IsIn-filter (λ d. is_on a i d && has_cell set d) (cells_in 8 8) (subst (λ z. IsIn c z) s m) in
    let b = and_parts (is_on a i c) (has_cell set c) k.1 in (k.0, b.0, b.1)

pub place_in_line : (a : Axis) (i : ℕ) (set : List Cell) (c : Cell) → IsOfLine a i set → IsIn c set → (k : ℕ) × (k < 8) × (c ≡ cell_on a i k)
place_in_line a i set c s m =
    let b = in_of_line a i set c s m in
    let line : line_of a c ≡ i = (Decides-eqb (line_of a c) i).0 b.1 in
    (line_of (across a) c, near a c (from_IsIn-cells_in 8 8 c b.0), cell_of_numbers a c ∙ (λ j. cell_on a (line j) (line_of (across a) c)))
  where
    near : (x : Axis) (d : Cell) → IsCellOf 8 8 d → line_of (across x) d < 8
    near Column d k = k.1
    near Row d k = k.0

-- a filter of such a set
pub cell_in_line : (a : Axis) (i : ℕ) (set : List Cell) (c : Cell) → IsOfLine a i set → IsIn c set → IsCellOf 8 8 c × (line_of a c ≡ i)
cell_in_line a i set c s m = let b = in_of_line a i set c s m in (from_IsIn-cells_in 8 8 c b.0, (Decides-eqb (line_of a c) i).0 b.1)

pub of_line_filter : (a : Axis) (i : ℕ) (set : List Cell) (test : Cell → Bool) → IsOfLine a i set → filter test set ≡ cells_that (λ c. is_on a i c && (has_cell set c && test c))
unfolding cells_that
of_line_filter a i set test s =
    ap (filter test) s ∙ filter-filter test (λ c. is_on a i c && has_cell set c) (cells_in 8 8)
    ∙ filter-agree (λ c. (is_on a i c && has_cell set c) && test c) (λ c. is_on a i c && (has_cell set c && test c)) (cells_in 8 8) (λ c m. sym (and_regroup (is_on a i c) (has_cell set c) (test c)))

-- ---- the active cells of a line
active_is_set : (t : Tiles) → t.width ≤ 8 → t.height ≤ 8 → IsCellSet (active_cells t)
active_is_set t k l = is_set_from (λ c. nat_lt c.x t.width && nat_lt c.y t.height && not (forbids t (point_at c))) (active_cells t) (sym (cells_within t.width t.height (λ c. not (forbids t (point_at c))) k l))

line_of_set : (a : Axis) (i : ℕ) (set : List Cell) → IsCellSet set → filter (is_on a i) set ≡ cells_that (λ c. is_on a i c && (has_cell set c && has_cell set c))
unfolding cells_that
line_of_set a i set s =
    ap (filter (is_on a i)) s ∙ filter-filter (is_on a i) (λ c. has_cell set c) (cells_in 8 8)
    ∙ filter-agree (λ c. has_cell set c && is_on a i c) (λ c. is_on a i c && (has_cell set c && has_cell set c)) (cells_in 8 8) (λ c m. swap (has_cell set c) (is_on a i c))
  where
    swap : (p q : Bool) → (p && q) ≡ (q && (p && p))
    swap true true = refl
    swap true false = refl
    swap false true = refl
    swap false false = refl

pub active_line : (a : Axis) (i : ℕ) (t : Tiles) (active set : List Cell) → IsTiling t → active ≡ active_cells t → set ≡ cells_that (λ c. is_on a i c && (has_cell active c && has_cell active c)) → set ≡ active_on a i t
active_line a i t active set k e f =
    f ∙ ap (λ s. cells_that (λ c. is_on a i c && (has_cell s c && has_cell s c))) e ∙ sym (line_of_set a i (active_cells t) (active_is_set t k.narrow k.low))

-- ---- parts of a line
same_nil : (set : List Cell) (n : ℕ) → n ≡ length set → not (n == 0) ≡ not (is_nil set)
same_nil [] n e = rw e refl
same_nil (c ∷ set) n e = rw e refl

module _ (a : Axis) (i : ℕ) (set whole : List Cell) (w : IsOfLine a i whole) (s : IsCellSet set) where
  abbrev pub both : Cell → Bool
  both c = is_on a i c && (has_cell set c && has_cell whole c)

  in_both : (c : Cell) → IsIn c (cells_that both) → (is_on a i c ≡ true) × (has_cell set c ≡ true) × (has_cell whole c ≡ true)
  unfolding cells_that
  in_both c m =
      let k = from_IsIn-filter both (cells_in 8 8) m in
      let p = and_parts (is_on a i c) (has_cell set c && has_cell whole c) k.1 in
      let q = and_parts (has_cell set c) (has_cell whole c) p.1 in (p.0, q.0, q.1)

  on_whole : (c : Cell) → has_cell whole c ≡ true → is_on a i c ≡ true
  on_whole c e = (in_of_line a i whole c w (in_set whole c e)).1

  all_three : (c : Cell) → list_all (has_cell whole) set ≡ true → (b : Bool) → has_cell set c ≡ b → both c ≡ b
  all_three c e true f =
      let g = each_passes (has_cell whole) e (in_set set c f) in rw (on_whole c g, f, g) refl
  all_three c e false f = rw f (and-false (is_on a i c))

  both_is_set : set_eq (cells_that both) set ≡ list_all (has_cell whole) set
  both_is_set = same_test (set_eq (cells_that both) set) (list_all (has_cell whole) set)
      (λ e. all_pass (has_cell whole) set (λ c m. (in_both c (subst (λ z. IsIn c z) (sym ((set_eq_decides (cells_that both) set).0 e)) m)).2))
      (λ e. (set_eq_decides (cells_that both) set).1 (same_set both (λ c. has_cell set c) (λ c m. all_three c e (has_cell set c) refl) ∙ sym s))

  all_whole : (c : Cell) → list_all (has_cell set) whole ≡ true → (b : Bool) → has_cell whole c ≡ b → both c ≡ (is_on a i c && b)
  all_whole c e true f = let g = each_passes (has_cell set) e (in_set whole c f) in rw (f, g) refl
  all_whole c e false f = rw f (ap (λ b. is_on a i c && b) (and-false (has_cell set c)))

  both_is_whole : set_eq (cells_that both) whole ≡ list_all (has_cell set) whole
  both_is_whole = same_test (set_eq (cells_that both) whole) (list_all (has_cell set) whole)
      (λ e. all_pass (has_cell set) whole (λ c m. (in_both c (subst (λ z. IsIn c z) (sym ((set_eq_decides (cells_that both) whole).0 e)) m)).1))
      (λ e. (set_eq_decides (cells_that both) whole).1 (same_set both (λ c. is_on a i c && has_cell whole c) (λ c m. all_whole c e (has_cell whole c) refl) ∙ sym w))

  pub proper_by_both : (common : List Cell) (n : ℕ) → common ≡ cells_that both → n ≡ length set → (not (n == 0) && set_eq common set && not (set_eq common whole)) ≡ is_proper_part set whole
  proper_by_both common n e l = rw (e, same_nil set n l, both_is_set, both_is_whole) refl

  pub part_of_line : is_proper_part set whole ≡ true → IsOfLine a i set
  part_of_line e =
      let p = and_parts (not (is_nil set) && list_all (has_cell whole) set) (not (list_all (has_cell set) whole)) e in
      let q = and_parts (not (is_nil set)) (list_all (has_cell whole) set) p.0 in
      s ∙ same_set (λ c. has_cell set c) (λ c. is_on a i c && has_cell set c) (λ c m. go c q.1 (has_cell set c) refl)
    where
      go : (c : Cell) → list_all (has_cell whole) set ≡ true → (b : Bool) → has_cell set c ≡ b → b ≡ (is_on a i c && b)
      go c e true f = rw (on_whole c (each_passes (has_cell whole) e (in_set set c f))) refl
      go c e false f = sym (and-false (is_on a i c))

-- ---- one cell
only_that : (c : Cell) (xs : List Cell) → NoRepeats xs → IsIn c xs → filter (λ d. cell_eq d c || false) xs ≡ c ∷ []
only_that c _ no_element m = elim m [ ]
only_that c _ (one_more out rest) (here {xs = xs}) =
    rw ((cell_eq_decides c c).1 refl) (ap (λ cells. c ∷ cells) (filter-none (λ d. cell_eq d c || false) xs (λ d m. other d m (cell_eq d c) refl)))
  where
    other : (d : Cell) → IsIn d xs → (b : Bool) → cell_eq d c ≡ b → (b || false) ≡ false
    other d m false e = refl
    other d m true e = absurd (out (subst (λ z. IsIn z xs) ((cell_eq_decides d c).0 e) m))
only_that c _ (one_more out rest) (later {xs = xs} d m) = go (cell_eq d c) refl (only_that c xs rest m)
  where
    go : (b : Bool) → cell_eq d c ≡ b → filter (λ e. cell_eq e c || false) xs ≡ c ∷ [] → cond (b || false) (d ∷ filter (λ e. cell_eq e c || false) xs) (filter (λ e. cell_eq e c || false) xs) ≡ c ∷ []
    go false e ih = ih
    go true e ih = absurd (out (subst (λ z. IsIn z xs) (sym ((cell_eq_decides d c).0 e)) m))

pub one_cell : (a : Axis) (cell : Cell) → IsCellOf 8 8 cell → with_cell [] cell ≡ cell ∷ []
unfolding cells_that
one_cell a cell k = only_that cell (cells_in 8 8) (NoRepeats-cells_in 8 8) (IsIn-cells_in 8 8 cell k)

pub one_of_line : (a : Axis) (i : ℕ) (cell : Cell) → IsCellOf 8 8 cell → line_of a cell ≡ i → IsOfLine a i (cell ∷ [])
one_of_line a i cell k e =
    sym (one_cell a cell k) ∙ same_set (λ c. cell_eq c cell || false) (λ c. is_on a i c && has_cell (cell ∷ []) c) (λ c m. go c (cell_eq c cell) refl)
  where
    go : (c : Cell) → (b : Bool) → cell_eq c cell ≡ b → (b || false) ≡ (is_on a i c && (b || false))
    go c false f = sym (and-false (is_on a i c))
    go c true f = let g : is_on a i c ≡ true = (Decides-eqb (line_of a c) i).1 (ap (line_of a) ((cell_eq_decides c cell).0 f) ∙ e) in rw g refl

-- ---- the list of a line's cells
eight_cases : (P : ℕ → Type 0) → P 0 → P 1 → P 2 → P 3 → P 4 → P 5 → P 6 → P 7 → (i : ℕ) → i < 8 → P i
eight_cases P a b c d e f g h zero l = a
eight_cases P a b c d e f g h (suc zero) l = b
eight_cases P a b c d e f g h (suc (suc zero)) l = c
eight_cases P a b c d e f g h (suc (suc (suc zero))) l = d
eight_cases P a b c d e f g h (suc (suc (suc (suc zero)))) l = e
eight_cases P a b c d e f g h (suc (suc (suc (suc (suc zero))))) l = f
eight_cases P a b c d e f g h (suc (suc (suc (suc (suc (suc zero)))))) l = g
eight_cases P a b c d e f g h (suc (suc (suc (suc (suc (suc (suc zero))))))) l = h
eight_cases P a b c d e f g h (suc (suc (suc (suc (suc (suc (suc (suc i)))))))) l = absurd (omega arith)

abbrev pub cells_on : Axis → ℕ → ℕ → List Cell
cells_on a i n = map (cell_on a i) (range_with_len 0 n)

line_listed : (a : Axis) (test : Cell → Bool) (i : ℕ) → i < 8 → filter (λ c. is_on a i c && test c) (cells_in 8 8) ≡ filter test (cells_on a i 8)
line_listed Column test i l = eight_cases (λ n. filter (λ c. is_on Column n c && test c) (cells_in 8 8) ≡ filter test (cells_on Column n 8)) refl refl refl refl refl refl refl refl i l
line_listed Row test i l = eight_cases (λ n. filter (λ c. is_on Row n c && test c) (cells_in 8 8) ≡ filter test (cells_on Row n 8)) refl refl refl refl refl refl refl refl i l

pub listed_of_line : (a : Axis) (i : ℕ) (set : List Cell) → i < 8 → IsOfLine a i set → filter (has_cell set) (cells_on a i 8) ≡ set
unfolding cells_that
listed_of_line a i set l s = sym (line_listed a (has_cell set) i l) ∙ sym s
