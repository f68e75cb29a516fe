-- Taking out the only point in a cell.
use Rattle.std.proofs.Common.{◌≡◌, ◌<◌, ◌+◌, ◌≤◌, ℕ, zero, suc, Bool, true, false, cond, List, [], ◌∷◌, length, get_or, refl, sym, ap, ◌∙◌, arith, subst}
use Rattle.std.specs.Prelude.{◌&&◌, not, map, nat_lt, All}
use Rattle.std.specs.List.{filter, remove}
use Rattle.std.proofs.lemmas.Bool.Decides.{Decides-eqb}
use Rattle.std.proofs.lemmas.List.{length-map}
use Rattle.patterns.specs.Ranks.{standardised}
use Rattle.gridded.specs.declared.cell.Cell.{Cell}
use Rattle.gridded.specs.Grids.{Point, cell_of}
use Rattle.gridded.specs.Orders.{cell_eq, cells_of, letters_of}
use Rattle.gridded.specs.Parts.{without_point, restricted}
use Rattle.gridded.proofs.ClosedUp.{cells_of-closed_up}
use Rattle.tiling_core.specs.Tiles.{IsInGrid}
use Rattle.gridded.specs.Places.{fits_grid, has_one_point_in}
use Rattle.steps.specs.Steps.{cleaned, cleaned_list, is_other_list}
use Rattle.steps.proofs.ListTests.{each_passes, all_pass, at_each}
use Rattle.steps.proofs.Cleaned.{count-cons, points_in_cell, none_in_cell}
use Rattle.steps.proofs.PutBack.{outside-all}
use Rattle.steps.proofs.InGrid.{all_in}
use Rattle.lists.specs.Members.{IsIn}
use Rattle.lists.proofs.Members.{from_IsIn-map, IsIn-map, from_IsIn-filter}

abbrev no_point_of : Cell → List Point → List Point
no_point_of c g = filter (λ p. not (cell_eq c p.cell)) g

in_cells : (c : Cell) (g : List Point) (i : ℕ) (d : Cell) → i < length (cells_of g) → cell_eq c (get_or (cells_of g) i d) ≡ true → 1 ≤ points_in_cell c g
in_cells c [] i d l e = absurd (omega arith)
in_cells c (p ∷ g) zero d l e = rw (count-cons c p g, e) (omega arith)
in_cells c (p ∷ g) (suc i) d l e = let h = in_cells c g i d (omega arith) e in rw (count-cons c p g) (omega arith)

only_removed : (c : Cell) (g : List Point) (i : ℕ) (d : Cell) → points_in_cell c g ≡ 1 → i < length (cells_of g) → cell_eq c (get_or (cells_of g) i d) ≡ true → remove g i ≡ no_point_of c g
only_removed c [] i d e l f = absurd (omega arith)
only_removed c (p ∷ g) zero d e l f =
    let total : 1 + points_in_cell c g ≡ 1 = rw (count-cons c p g, f) at e in
    rw f (sym (outside-all c g (none_in_cell c g (omega arith))))
only_removed c (p ∷ g) (suc i) d e l f = go (cell_eq c p.cell) refl (only_removed c g i d)
  where
    some : 1 ≤ points_in_cell c g
    some = in_cells c g i d (omega arith) f

    total : cond (cell_eq c p.cell) 1 0 + points_in_cell c g ≡ 1
    total = sym (count-cons c p g) ∙ e

    go : (b : Bool) → cell_eq c p.cell ≡ b → (points_in_cell c g ≡ 1 → i < length (cells_of g) → cell_eq c (get_or (cells_of g) i d) ≡ true → remove g i ≡ no_point_of c g) → p ∷ remove g i ≡ cond (not b) (p ∷ no_point_of c g) (no_point_of c g)
    go true h ih = let k : 1 + points_in_cell c g ≡ 1 = rw h at total in absurd (omega (arith, some))
    go false h ih = let k : 0 + points_in_cell c g ≡ 1 = rw h at total in ap (λ r. p ∷ r) (ih (omega arith) (omega arith) f)

pub point_removed : (c : Cell) (g : List Point) (i : ℕ) (d : Cell) → has_one_point_in c g ≡ true → i < length (cells_of g) → cell_eq c (get_or (cells_of g) i d) ≡ true → without_point g i ≡ cleaned c g
point_removed c g i d e l f = rw (e, only_removed c g i d ((Decides-eqb (points_in_cell c g) 1).0 e) l f) refl

pub none_removed : (c : Cell) (g : List Point) → has_one_point_in c g ≡ false → g ≡ cleaned c g
none_removed c g e = rw e refl

-- there is a point to remove
none_there : (c : Cell) (g : List Point) → ((k : ℕ) → k < length (cells_of g) → cell_eq c (get_or (cells_of g) k (record { x = 0; y = 0 })) ≡ false) → points_in_cell c g ≡ 0
none_there c [] f = refl
none_there c (p ∷ g) f = let ih = none_there c g (λ k l. f (suc k) (omega arith)) in count-cons c p g ∙ rw (f zero (omega arith)) (omega arith)

pub no_point : (c : Cell) (g : List Point) → ((k : ℕ) → k < length (cells_of g) → cell_eq c (get_or (cells_of g) k (record { x = 0; y = 0 })) ≡ false) → has_one_point_in c g ≡ false
no_point c g f = rw (none_there c g f) refl

pub ruleset removing = (point_removed, none_removed, no_point)

-- ---- what is left lies in the grid
restricted_in : (w h : ℕ) (test : Cell → Bool) (g : List Point) → fits_grid w h g ≡ true → fits_grid w h (restricted test g) ≡ true
restricted_in w h test g e =
    let part = filter (λ p. test p.cell) g in
    rw (cells_of-closed_up part)
    (all_pass (λ (c : Cell). nat_lt c.x w && nat_lt c.y h) (cells_of part) (λ c m. inside c (from_IsIn-map cell_of part m)))
  where
    inside : (c : Cell) → (p : Point) × IsIn p (filter (λ p. test p.cell) g) × (c ≡ cell_of p) → (nat_lt c.x w && nat_lt c.y h) ≡ true
    inside c p =
        let m = from_IsIn-filter (λ q. test q.cell) g p.1 in
        subst (λ (d : Cell). (nat_lt d.x w && nat_lt d.y h) ≡ true) (sym p.2) (each_passes (λ (d : Cell). nat_lt d.x w && nat_lt d.y h) e (IsIn-map cell_of m.0))

cleaned_in : (w h : ℕ) (c : Cell) (g : List Point) → fits_grid w h g ≡ true → fits_grid w h (cleaned c g) ≡ true
cleaned_in w h c g e = go (has_one_point_in c g)
  where
    go : (b : Bool) → fits_grid w h (cond b (restricted (λ d. not (cell_eq c d)) g) g) ≡ true
    go true = restricted_in w h (λ d. not (cell_eq c d)) g e
    go false = e

pub all_cleaned_in : (w h : ℕ) (c : Cell) (patterns : List (List Point)) → IsInGrid w h patterns → IsInGrid w h (map (cleaned c) patterns)
all_cleaned_in w h c patterns k = all_in (λ g. fits_grid w h g ≡ true) (map (cleaned c) patterns) (λ g m. each g (from_IsIn-map (cleaned c) patterns m))
  where
    each : (g : List Point) → (p : List Point) × IsIn p patterns × (g ≡ cleaned c p) → fits_grid w h g ≡ true
    each g p = subst (λ (q : List Point). fits_grid w h q ≡ true) (sym p.2) (cleaned_in w h c p.0 (at_each (λ q. fits_grid w h q ≡ true) k p.1))

list_cleaned_in : (w h : ℕ) (c : Cell) (patterns : List (List Point)) → IsInGrid w h patterns → IsInGrid w h (cleaned_list c patterns)
list_cleaned_in w h c patterns k = go (is_other_list c patterns)
  where
    go : (b : Bool) → IsInGrid w h (cond b (map (cleaned c) patterns) patterns)
    go true = all_cleaned_in w h c patterns k
    go false = k

pub lists_cleaned_in : (w h : ℕ) (c : Cell) (lists : List (List (List Point))) → All (λ patterns. IsInGrid w h patterns) lists → All (λ patterns. IsInGrid w h patterns) (map (cleaned_list c) lists)
lists_cleaned_in w h c lists k = all_in (λ patterns. IsInGrid w h patterns) (map (cleaned_list c) lists) (λ patterns m. each patterns (from_IsIn-map (cleaned_list c) lists m))
  where
    each : (patterns : List (List Point)) → (qs : List (List Point)) × IsIn qs lists × (patterns ≡ cleaned_list c qs) → IsInGrid w h patterns
    each patterns qs = subst (λ (ps : List (List Point)). IsInGrid w h ps) (sym qs.2) (list_cleaned_in w h c qs.0 (at_each (λ ps. IsInGrid w h ps) k qs.1))

pub ruleset cleaned_in_grid = (all_cleaned_in, lists_cleaned_in)
