-- An obstruction of two points or more with one in a cell that is not active holds that point.
use Rattle.std.proofs.Common.{◌≡◌, ℕ, zero, suc, ◌+◌, ◌-◌, ◌<◌, ◌≤◌, Bool, true, false, List, [], ◌∷◌, ◌++◌, length, take, drop, get_or, refl, ap, sym, ◌∙◌, subst, ⊎_elim, arith}
use Rattle.std.specs.Prelude.{◌&&◌, ◌||◌, not, nat_lt}
use Rattle.std.specs.List.{list_any}
use Rattle.std.specs.List.Sorted.{IsStrictlySortedBy}
use Rattle.std.proofs.lemmas.List.{take-append-drop, take-append-le, take_more, take_all, length-append, length-drop}
use Rattle.std.proofs.lemmas.List.Folds.{list_any-append}
use Rattle.std.proofs.lemmas.List.Elements.{All-head}
use Rattle.std.proofs.lemmas.Bool.Decides.{nat_tests}
use Rattle.std.proofs.lemmas.Bool.{and_parts as and_true, and_from as both_true, not-true as not_true, not_from_false as not_false}
use Rattle.lists.specs.Members.{IsIn}
use Rattle.lists.specs.Members.IsIn.{here, later}
use Rattle.lists.proofs.Members.{IsIn-append_cases, IsIn-append_left, only_in, IsIn-map, from_IsIn-map, IsIn-filter, from_IsIn-filter}
use Rattle.lists.proofs.Tests.{no_pass}
use Rattle.gridded.specs.declared.cell.Cell.{Cell}
use Rattle.gridded.specs.CellSets.{is_among as has_cell, cells_that, IsCellSet}
use Rattle.gridded.specs.Grids.{Point, holds, cell_of, cells_in, IsGridded}
use Rattle.gridded.specs.Orders.{gridded_eq, gridded_cmp, cells_of}
use Rattle.gridded.specs.Small.{point_at}
use Rattle.gridded.specs.Places.{fits_grid}
use Rattle.gridded.proofs.CellSets.{is_among_decides, outside}
use Rattle.gridded.proofs.Pairs.{holds_its_point}
use Rattle.gridded.proofs.Holding.{held_point}
use Rattle.tiling_core.specs.Tiles.{Tiles, IsTiling}
use Rattle.tiling_core.specs.Patterns.{forbids, active_cells, holds_another}
use Rattle.tiling_core.proofs.GridCells.{among_decides}
use Rattle.steps.specs.Outside.{leaves, LeavingHolds, HoldsNoSingle, AreSingle}
use Rattle.steps.proofs.ListTests.{at_each, which_passes, some_passes}
use Rattle.steps.proofs.Lines.{cell_is_in, cell_in_grid}
use Rattle.steps.proofs.Minimal.{shorter_and_held}
use Rattle.steps.proofs.LeastSoFar.{staying}

-- a cell with a large coordinate is in no set
pub far_outside : (set : List Cell) (c : Cell) → IsCellSet set → 7 < c.x → true ≡ not (has_cell set c)
far_outside set c s far = rw (outside set c s (λ k. omega (arith, k.0))) refl

pub high_outside : (set : List Cell) (c : Cell) → IsCellSet set → 7 < c.y → true ≡ not (has_cell set c)
high_outside set c s far = rw (outside set c s (λ k. omega (arith, k.1))) refl

-- the point at a cell of the grid that is not active is an obstruction
forbidden : (t : Tiles) (c : Cell) → (nat_lt c.x t.width && nat_lt c.y t.height) ≡ true → not (has_cell (active_cells t) c) ≡ true → forbids t (point_at c) ≡ true
forbidden t c inside e = go (forbids t (point_at c)) refl
  where
    go : (b : Bool) → forbids t (point_at c) ≡ b → forbids t (point_at c) ≡ true
    go true f = f
    go false f =
        let m = IsIn-filter (λ d. not (forbids t (point_at d))) (cell_is_in t.width t.height c inside) (not_false (forbids t (point_at c)) f) in
        let a = (is_among_decides (active_cells t) c).1 m in
        let b = not_true (has_cell (active_cells t) c) e in
        absurd cc

pub leaving_holds : (t : Tiles) → IsTiling t → LeavingHolds (active_cells t) t.obstructions
leaving_holds t k g m e =
    let a = and_true (nat_lt 1 (length g)) (list_any (λ c. not (has_cell (active_cells t) c)) (cells_of g)) e in
    let w = which_passes (λ c. not (has_cell (active_cells t) c)) (cells_of g) a.1 in
    let z = from_IsIn-map cell_of g w.1 in
    let fits = at_each (λ (h : List Point). fits_grid t.width t.height h ≡ true) k.obstructions_in m in
    let inside = cell_in_grid t.width t.height g z.0 fits z.1 in
    let out = subst (λ (c : Cell). not (has_cell (active_cells t) c) ≡ true) z.2 w.2 in
    let listed = (among_decides t.obstructions (point_at z.0.cell)).0 (forbidden t z.0.cell inside out) in
    let gridded = λ (h : List Point) (n : IsIn h t.obstructions). at_each (λ (p : List Point). IsGridded p) k.obstructions_gridded n in
    let held = holds_its_point g z.0 z.0.cell z.1 refl in
    let short : (nat_lt (length (point_at z.0.cell)) (length g) && holds g (point_at z.0.cell)) ≡ true = both_true (nat_lt 1 (length g)) (holds g (point_at z.0.cell)) a.0 held in
    some_passes (λ p. not (gridded_eq g p) && holds g p) listed (rw (← shorter_and_held g (point_at z.0.cell) (gridded g m) (gridded (point_at z.0.cell) listed)) short)

-- ---- single points
single_is_point : (p : List Point) → IsGridded p → length p ≡ 1 → (q : Point) × IsIn q p × (p ≡ point_at q.cell)
single_is_point [] k e = absurd (omega arith)
single_is_point (q ∷ []) k e =
    let low = All-head (λ (r : Point). r.letter < 1) q [] k.below in
    let zero_letter : q.letter ≡ 0 = omega arith in
    (q, here, λ i. record { letter = zero_letter i; cell = q.cell } ∷ [])
single_is_point (q ∷ r ∷ p) k e = absurd (omega arith)

pub no_single_held : (t : Tiles) → IsTiling t → HoldsNoSingle (active_cells t) t.obstructions
no_single_held t k g p m n single long inside = go (holds g p) refl
  where
    point : (q : Point) × IsIn q p × (p ≡ point_at q.cell)
    point = single_is_point p (at_each (λ (h : List Point). IsGridded h) k.obstructions_gridded n) single

    c : Cell
    c = point.0.cell

    listed : forbids t (point_at c) ≡ true
    listed = (among_decides t.obstructions (point_at c)).1 (subst (λ (h : List Point). IsIn h t.obstructions) point.2 n)

    out : (b : Bool) → has_cell (active_cells t) c ≡ b → not (has_cell (active_cells t) c) ≡ true
    out false e = rw e refl
    out true e =
        let active = from_IsIn-filter (λ d. not (forbids t (point_at d))) (cells_in t.width t.height) ((is_among_decides (active_cells t) c).0 e) in
        let free = not_true (forbids t (point_at c)) active.1 in
        let taken = listed in
        absurd cc

    go : (b : Bool) → holds g p ≡ b → holds g p ≡ false
    go false e = e
    go true e =
        let z = held_point g p e point.0 point.1 in
        let there = subst (λ (d : Cell). not (has_cell (active_cells t) d) ≡ true) (sym z.2) (out (has_cell (active_cells t) c) refl) in
        let touched = some_passes (λ d. not (has_cell (active_cells t) d)) (IsIn-map cell_of z.1) there in
        let left : leaves (active_cells t) g ≡ true = both_true (nat_lt 1 (length g)) (list_any (λ d. not (has_cell (active_cells t) d)) (cells_of g)) long touched in
        absurd cc

-- ---- what is held after the first ones
module _ (g : List Point) (n : ℕ) (patterns : List (List Point)) where
  pub held_after : list_any (holds g) (take n patterns) ≡ false → holds_another (drop n patterns) g ≡ holds_another patterns g
  held_after e =
      sym (ap (λ (ps : List (List Point)). holds_another ps g) (sym (take-append-drop n patterns))
      ∙ list_any-append (λ p. not (gridded_eq g p) && holds g p) (take n patterns) (drop n patterns)
      ∙ ap (λ b. b || holds_another (drop n patterns) g) (no_pass (λ p. not (gridded_eq g p) && holds g p) (take n patterns) (λ p m f.
      let held = some_passes (holds g) m (and_true (not (gridded_eq g p)) (holds g p) f).1 in absurd cc)))

drop_ascends : (n : ℕ) (xs : List (List Point)) → IsStrictlySortedBy gridded_cmp xs → IsStrictlySortedBy gridded_cmp (drop n xs)
unfolding IsStrictlySortedBy
drop_ascends zero xs s = s
drop_ascends (suc n) [] s = tt
drop_ascends (suc n) (x ∷ xs) s = drop_ascends n xs s.1

pub after_ascends : (n : ℕ) (xs : List (List Point)) → IsStrictlySortedBy gridded_cmp xs → IsStrictlySortedBy gridded_cmp (drop n xs)
after_ascends n xs s = drop_ascends n xs s

-- one more single point at the front
pub one_more_single : (patterns : List (List Point)) (n : ℕ) (x : List Point) → n < length patterns → x ≡ get_or patterns n x → length x ≡ 1 → AreSingle (take n patterns) → AreSingle (take (n + 1) patterns)
one_more_single patterns n x b at e k p m =
    ⊎_elim {C = length p ≡ 1} (k p) (λ i. subst (λ (h : List Point). length h ≡ 1) (at ∙ sym (only_in i)) e)
    (IsIn-append_cases (take n patterns) (get_or patterns n x ∷ []) (subst (λ (ps : List (List Point)). IsIn p ps) (take_more patterns n x b) m))

-- they stay when a pattern is put behind
pub single_behind : (patterns : List (List Point)) (n : ℕ) (g : List Point) → n ≤ length patterns → AreSingle (take n patterns) → AreSingle (take n (patterns ++ g ∷ []))
single_behind patterns n g b k = subst (λ (ps : List (List Point)). AreSingle ps) (sym (take-append-le n patterns (g ∷ []) b)) k

-- none of the first ones is held
pub none_single_held : (cells : List Cell) (patterns kept : List (List Point)) (n : ℕ) (g : List Point) → HoldsNoSingle cells patterns → ((p : List Point) → IsIn p kept → IsIn p patterns) → IsIn g patterns → AreSingle (take n kept) → nat_lt 1 (length g) ≡ true → leaves cells g ≡ false → list_any (holds g) (take n kept) ≡ false
none_single_held cells patterns kept n g h within m k long inside = no_pass (holds g) (take n kept) (λ p i e.
    let listed = within p (subst (λ (ps : List (List Point)). IsIn p ps) (take-append-drop n kept) (IsIn-append_left (drop n kept) i)) in
    let none = h g p m listed (k p i) long inside in absurd cc)

pub all_behind : (n : ℕ) (xs : List (List Point)) → take (length xs - n) (drop n xs) ≡ drop n xs
all_behind n xs = let many = length-drop n xs in take_all (length xs - n) (drop n xs) (omega arith)

-- ---- what is kept so far
pub kept_within : (patterns : List (List Point)) (i : ℕ) (kept : List (List Point)) → kept ≡ staying patterns (take i patterns) → (p : List Point) → IsIn p kept → IsIn p patterns
kept_within patterns i kept e p m =
    let k = from_IsIn-filter (λ h. not (holds_another patterns h)) (take i patterns) (subst (λ (ps : List (List Point)). IsIn p ps) e m) in
    subst (λ (ps : List (List Point)). IsIn p ps) (take-append-drop i patterns) (IsIn-append_left (drop i patterns) k.0)

pub few_more : (kept : List (List Point)) (g : List Point) (n : ℕ) → n ≤ length kept → n ≤ length (kept ++ g ∷ [])
few_more kept g n b = omega (arith, length-append kept (g ∷ []))
