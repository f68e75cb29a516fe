-- The new lines and cells that go to old ones are runs.
use Rattle.std.proofs.Common.{◌≡◌, ℕ, zero, suc, ◌+◌, ◌-◌, ◌<◌, ◌≤◌, Bool, true, false, List, [], ◌∷◌, ◌++◌, refl, ap, ◌∙◌, arith}
use Rattle.std.specs.Prelude.{◌&&◌, map, filter, flat_map, nat_lt, nat_le, nat_eq, cond}
use Rattle.std.specs.List.{range_with_len}
use Rattle.std.proofs.lemmas.Bool.Decides.{nat_tests}
use Rattle.std.proofs.lemmas.List.Elements.{filter-append}
use Rattle.gridded.specs.declared.cell.Cell.{Cell}
use Rattle.gridded.specs.Grids.{cells_in}
use Rattle.gridded.specs.Orders.{cell_eq}
use Rattle.coord_maps.specs.LineMaps.{Cut, IsCut, new_lines, old_line, first_line, parts_of}
use Rattle.coord_maps.specs.GridMaps.{IsGridMap, old_cell}
use Rattle.coord_maps.specs.Preimages.{lines_over}
use Rattle.coord_maps.specs.declared.grid_map.GridMap.{GridMap}

-- the numbers of a range that pass a test are those of another
abbrev Agrees : (ℕ → Bool) → ℕ → ℕ → ℕ → ℕ → Type 0
Agrees t a n f l = (i : ℕ) → a ≤ i → i < a + n → t i ≡ (nat_le f i && nat_lt i (f + l))

-- the numbers of a range that lie in a shorter one
pub filter_run : (t : ℕ → Bool) (a n f l : ℕ) → a ≤ f → f + l ≤ a + n → Agrees t a n f l → filter t (range_with_len a n) ≡ range_with_len f l
filter_run t a zero f zero h k e = refl
filter_run t a zero f (suc l) h k e = absurd (omega arith)
filter_run t a (suc n) f zero h k e =
    let out : t a ≡ false = let q = e a (omega arith) (omega arith) in grind (arith, nat_tests) in
    rw out (filter_run t (a + 1) n (a + 1) zero (omega arith) (omega arith) (λ i p q. let r = e i (omega arith) (omega arith) in grind (arith, nat_tests)))
filter_run t a (suc n) f (suc l) h k e =
    go (f - a) refl (λ p q r. filter_run t (a + 1) n (f + 1) l p q r) (λ p q r. filter_run t (a + 1) n f (suc l) p q r)
  where
    go : (d : ℕ) → f - a ≡ d → (a + 1 ≤ f + 1 → f + 1 + l ≤ a + 1 + n → Agrees t (a + 1) n (f + 1) l → filter t (range_with_len (a + 1) n) ≡ range_with_len (f + 1) l)
        → (a + 1 ≤ f → f + suc l ≤ a + 1 + n → Agrees t (a + 1) n f (suc l) → filter t (range_with_len (a + 1) n) ≡ range_with_len f (suc l)) → filter t (range_with_len a (suc n)) ≡ range_with_len f (suc l)
    go zero z one two =
        let same : a ≡ f = omega arith in
        let in_it : t a ≡ true = let q = e a (omega arith) (omega arith) in grind (arith, nat_tests) in
        rw in_it (let rest = one (omega arith) (omega arith) (λ i p q. let r = e i (omega arith) (omega arith) in grind (arith, nat_tests)) in λ i. same i ∷ rest i)
    go (suc d) z one two =
        let out : t a ≡ false = let q = e a (omega arith) (omega arith) in grind (arith, nat_tests) in
        rw out (two (omega arith) (omega arith) (λ i p q. e i (omega arith) (omega arith)))

-- the last part is a new line
pub run_within : (m : Cut) (old : ℕ) → IsCut m → old < m.lines → first_line m old + parts_of m old ≤ new_lines m
run_within m old k h = let p = k.some_parts in grind (arith, nat_tests)

pub some_part : (m : Cut) (old : ℕ) → IsCut m → 0 < parts_of m old
some_part m old k = let p = k.some_parts in grind (arith, nat_tests)

pub lines_filtered : (m : Cut) (old : ℕ) → IsCut m → old < m.lines → filter (λ i. nat_eq (old_line m i) old) (range_with_len 0 (new_lines m)) ≡ lines_over m old
lines_filtered m old k h =
    filter_run (λ i. nat_eq (old_line m i) old) 0 (new_lines m) (first_line m old) (parts_of m old) (omega arith) (omega (arith, run_within m old k h))
    (λ i p q. let s = k.some_parts in grind (arith, nat_tests))

-- ---- cells
abbrev pub cell_at : ℕ → ℕ → Cell
cell_at x y = record { x = x; y = y }

abbrev no_cells : List Cell
no_cells = []

abbrev row_filtered : (ℕ → Bool) → (ℕ → Bool) → ℕ → List ℕ → List Cell
row_filtered t u x ys = filter (λ (c : Cell). t c.x && u c.y) (map (cell_at x) ys)

filter_row : (t u : ℕ → Bool) (x : ℕ) (ys : List ℕ) → filter (λ (c : Cell). t c.x && u c.y) (map (cell_at x) ys) ≡ cond (t x) (map (cell_at x) (filter u ys)) []
filter_row t u x [] = go (t x)
  where
    go : (b : Bool) → no_cells ≡ cond b no_cells no_cells
    go true = refl
    go false = refl
filter_row t u x (y ∷ ys) = go (t x) (u y) (filter_row t u x ys)
  where
    go : (a b : Bool) → row_filtered t u x ys ≡ cond a (map (cell_at x) (filter u ys)) [] → cond (a && b) (cell_at x y ∷ row_filtered t u x ys) (row_filtered t u x ys) ≡ cond a (map (cell_at x) (cond b (y ∷ filter u ys) (filter u ys))) []
    go true true e = ap (λ (r : List Cell). cell_at x y ∷ r) e
    go true false e = e
    go false b e = e

filter_cells : (t u : ℕ → Bool) (xs ys : List ℕ) → filter (λ (c : Cell). t c.x && u c.y) (flat_map (λ x. map (cell_at x) ys) xs) ≡ flat_map (λ x. map (cell_at x) (filter u ys)) (filter t xs)
filter_cells t u [] ys = refl
filter_cells t u (x ∷ xs) ys =
    filter-append (λ (c : Cell). t c.x && u c.y) (map (cell_at x) ys) (flat_map (λ x. map (cell_at x) ys) xs)
    ∙ rw (filter_row t u x ys, filter_cells t u xs ys) (go (t x))
  where
    go : (b : Bool) → cond b (map (cell_at x) (filter u ys)) [] ++ flat_map (λ z. map (cell_at z) (filter u ys)) (filter t xs) ≡ flat_map (λ z. map (cell_at z) (filter u ys)) (cond b (x ∷ filter t xs) (filter t xs))
    go true = refl
    go false = refl

-- the new cells that go to an old one
pub cells_filtered : (m : GridMap) (c : Cell) → IsGridMap m → c.x < m.columns.lines → c.y < m.rows.lines
    → filter (λ new. cell_eq (old_cell m new) c) (cells_in (new_lines m.columns) (new_lines m.rows)) ≡ flat_map (λ x. map (cell_at x) (lines_over m.rows c.y)) (lines_over m.columns c.x)
cells_filtered m c k hx hy =
    filter_cells (λ x. nat_eq (old_line m.columns x) c.x) (λ y. nat_eq (old_line m.rows y) c.y) (range_with_len 0 (new_lines m.columns)) (range_with_len 0 (new_lines m.rows))
    ∙ rw (lines_filtered m.columns c.x k.columns hx, lines_filtered m.rows c.y k.rows hy) refl
