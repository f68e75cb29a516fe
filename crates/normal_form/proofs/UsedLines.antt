-- The lines that no pattern touches are those without a cell that is used.
use Rattle.std.proofs.Common.{◌≡◌, ◌<◌, ◌≤◌, ◌+◌, ℕ, zero, suc, Bool, true, false, List, [], ◌∷◌, length, take, get_or, refl, sym, ap, ◌∙◌, subst, inl, inr, ⊎_elim, arith}
use Rattle.std.specs.Prelude.{◌&&◌, ◌||◌, ◌==◌, not, nat_lt, All}
use Rattle.std.specs.List.{list_all, list_any}
use Rattle.std.proofs.lemmas.Bool.Decides.{nat_tests, Decides-eqb}
use Rattle.std.proofs.lemmas.List.{take_all}
use Rattle.std.proofs.lemmas.List.Folds.{list_any_more}
use Rattle.std.proofs.lemmas.Bool.{and_parts as and_true, or_cases as or_true}
use Rattle.std.proofs.Math.Bool.{or-false as or_end}
use Rattle.lists.specs.Members.{IsIn}
use Rattle.lists.specs.Members.IsIn.{here, later}
use Rattle.lists.proofs.Members.{from_IsIn-filter, all_in, of_all}
use Rattle.lists.proofs.Tests.{same_test, each_passes, some_passes, which_passes, no_pass, none-not_any, list_all-agree}
use Rattle.gridded.specs.declared.axis.Axis.{Axis}
use Rattle.gridded.specs.declared.axis.Axis.TheVariants.{Column, Row}
use Rattle.gridded.specs.declared.cell.Cell.{Cell}
use Rattle.gridded.specs.Axes.{is_on, line_of, with_line}
use Rattle.gridded.specs.CellSets.{is_among, cells_that, HasOneMore, IsCellSet}
use Rattle.gridded.proofs.CellSets.{is_among_decides}
use Rattle.gridded.proofs.GriddedLists.{from_IsIn-cells_in}
use Rattle.gridded.specs.Grids.{Point, cells_in}
use Rattle.gridded.specs.Laws.{IsCellOf}
use Rattle.gridded.specs.Orders.{cells_of}
use Rattle.gridded.specs.Places.{touches, fits_grid}
use Rattle.tiling_core.specs.Tiles.{Tiles, IsInGrid}
use Rattle.tiling_core.specs.Patterns.{active_cells}
use Rattle.tiling_core.proofs.GridCells.{in_wider_grid}
use Rattle.steps.specs.Steps.{is_blank, misses, sides}
use Rattle.normal_form.specs.Lines.{touches_longer, is_used, AreUsed}

-- ---- a set with one more cell
or_left : (a b : Bool) → a ≡ true → (a || b) ≡ true
or_left true b e = refl
or_left false b e = absurd cc

or_right : (a b : Bool) → b ≡ true → (a || b) ≡ true
or_right true b e = refl
or_right false b e = e

or_group : (a b c : Bool) → (a || b || c) ≡ (a || (b || c))
or_group true b c = refl
or_group false b c = refl

pub one_more_cell : (test : Cell → Bool) (set larger : List Cell) (cell : Cell) → HasOneMore set cell larger → list_any test larger ≡ (list_any test set || test cell)
one_more_cell test set larger cell h = same_test (list_any test larger) (list_any test set || test cell)
    (λ e. let w = which_passes test larger e in
    ⊎_elim {C = (list_any test set || test cell) ≡ true}
    (λ same. or_right (list_any test set) (test cell) (subst (λ (c : Cell). test c ≡ true) same w.2))
    (λ m. or_left (list_any test set) (test cell) (some_passes test m w.2))
    ((h w.0).0 w.1))
    (λ e. ⊎_elim {C = list_any test larger ≡ true}
    (λ f. let w = which_passes test set f in some_passes test ((h w.0).1 (inr w.1)) w.2)
    (λ f. some_passes test ((h cell).1 (inl refl)) f)
    (or_true (list_any test set) (test cell) e))

-- one item more of a list that is gone through
pub grows : {X : Type 0} (p : X → Bool) (xs : List X) (i : ℕ) (d : X) (start before after : Bool) → i < length xs → before ≡ (start || list_any p (take i xs)) → after ≡ (before || p (get_or xs i d)) → after ≡ (start || list_any p (take (i + 1) xs))
grows p xs i d start before after b e f =
    f ∙ ap (λ t. t || p (get_or xs i d)) e ∙ or_group start (list_any p (take i xs)) (p (get_or xs i d))
    ∙ ap (λ t. start || t) (sym (list_any_more p xs i d b))

-- one that does not pass
pub stays : {X : Type 0} (p : X → Bool) (xs : List X) (i : ℕ) (d : X) (start before : Bool) → i < length xs → p (get_or xs i d) ≡ false → before ≡ (start || list_any p (take i xs)) → before ≡ (start || list_any p (take (i + 1) xs))
stays p xs i d start before b fails e = grows p xs i d start before before b e (sym (ap (λ t. before || t) fails ∙ or_end before))

-- all of them
pub whole : {X : Type 0} (p : X → Bool) (xs : List X) (i : ℕ) (start after : Bool) → length xs ≤ i → after ≡ (start || list_any p (take i xs)) → after ≡ (start || list_any p xs)
whole {X} p xs i start after b e = e ∙ ap (λ (ys : List X). start || list_any p ys) (take_all i xs b)

-- nothing yet
pub none_yet : {X : Type 0} (p : X → Bool) (xs : List X) (start : Bool) → start ≡ (start || list_any p (take 0 xs))
none_yet p xs start = sym (or_end start)

-- a single point adds no cell, another pattern its own
pub single_adds_none : (test : Cell → Bool) (set : List Cell) (g : List Point) → length g ≡ 1 → list_any test set ≡ (list_any test set || touches_longer test g)
single_adds_none test set g e =
    sym (ap (λ b. list_any test set || (not b && touches test g)) ((Decides-eqb (length g) 1).1 e) ∙ or_end (list_any test set))

pub longer_adds : (test : Cell → Bool) (set : List Cell) (g : List Point) → (length g ≡ 1 → ⊥) → (list_any test set || touches test g) ≡ (list_any test set || touches_longer test g)
longer_adds test set g ne = go (length g == 1) refl
  where
    go : (b : Bool) → (length g == 1) ≡ b → (list_any test set || touches test g) ≡ (list_any test set || (not (length g == 1) && touches test g))
    go true e = absurd (ne ((Decides-eqb (length g) 1).0 e))
    go false e = rw e refl

-- ---- cells of patterns
lower : (a b : ℕ) → nat_lt a b ≡ true → a < b
lower a b e = grind (arith, nat_tests)

at_is_in : {X : Type 0} (i : ℕ) (xs : List X) (d : X) → i < length xs → IsIn (get_or xs i d) xs
at_is_in i [] d b = absurd (omega arith)
at_is_in zero (x ∷ xs) d b = here
at_is_in (suc i) (x ∷ xs) d b = later x (at_is_in i xs d (omega arith))

pub cell_fits : (g : List Point) (i : ℕ) (d : Cell) → fits_grid 8 8 g ≡ true → i < length (cells_of g) → IsCellOf 8 8 (get_or (cells_of g) i d)
cell_fits g i d f b =
    let c = get_or (cells_of g) i d in
    let e = each_passes (λ (c : Cell). nat_lt c.x 8 && nat_lt c.y 8) f (at_is_in i (cells_of g) d b) in
    let k = and_true (nat_lt c.x 8) (nat_lt c.y 8) e in
    (lower c.x 8 k.0, lower c.y 8 k.1)

-- ---- lines
-- a cell on a line stands at a place of it
place_on : (a : Axis) (i : ℕ) (c : Cell) → is_on a i c ≡ true → IsCellOf 8 8 c → (k : ℕ) × (k < 8) × (c ≡ with_line a i (record { x = k; y = k }))
place_on Column i c e k = let same = (Decides-eqb c.x i).0 e in (c.y, k.1, λ j. record { x = same j; y = c.y })
place_on Row i c e k = let same = (Decides-eqb c.y i).0 e in (c.x, k.0, λ j. record { x = c.x; y = same j })

stands_on : (a : Axis) (i : ℕ) (c : Cell) → is_on a i (with_line a i c) ≡ true
stands_on Column i c = (Decides-eqb i i).1 refl
stands_on Row i c = (Decides-eqb i i).1 refl

in_eight : (set : List Cell) (c : Cell) → IsCellSet set → IsIn c set → IsCellOf 8 8 c
unfolding cells_that
in_eight set c s m = from_IsIn-cells_in 8 8 c (from_IsIn-filter (λ d. is_among set d) (cells_in 8 8) (subst (λ (cells : List Cell). IsIn c cells) s m)).0

-- none of the eight cells of a line is in the set
pub none_on : (a : Axis) (i : ℕ) (set : List Cell) → IsCellSet set → ((k : ℕ) → k < 8 → is_among set (with_line a i (record { x = k; y = k })) ≡ false) → false ≡ list_any (is_on a i) set
none_on a i set s f = sym (no_pass (is_on a i) set (λ c m e.
    let k = place_on a i c e (in_eight set c s m) in
    let among = (is_among_decides set (with_line a i (record { x = k.0; y = k.0 }))).1 (subst (λ (d : Cell). IsIn d set) k.2 m) in
    let none = f k.0 k.1 in
    absurd cc))

pub one_on : (a : Axis) (i k : ℕ) (set : List Cell) → is_among set (with_line a i (record { x = k; y = k })) ≡ true → true ≡ list_any (is_on a i) set
one_on a i k set e =
    let c = with_line a i (record { x = k; y = k }) in sym (some_passes (is_on a i) ((is_among_decides set c).0 e) (stands_on a i (record { x = k; y = k })))

-- the eight lines have few cells
pub line_fits : (a : Axis) (i k : ℕ) → i < 8 → k < 8 → IsCellOf 8 8 (with_line a i (record { x = k; y = k }))
line_fits Column i k l m = (l, m)
line_fits Row i k l m = (m, l)

longer_or_misses : (b t : Bool) → (b || not t) ≡ not (not b && t)
longer_or_misses true t = refl
longer_or_misses false t = refl

unused : (a b c : Bool) → (not a && (not b && not c)) ≡ not (a || b || c)
unused true b c = refl
unused false true c = refl
unused false false c = refl

pub blank_is_unused : (a : Axis) (i : ℕ) (t : Tiles) (cells : List Cell) → AreUsed cells t → (nat_lt i (line_of a (sides t)) && not (list_any (is_on a i) cells)) ≡ is_blank a i t
blank_is_unused a i t cells u =
    ap (λ b. nat_lt i (line_of a (sides t)) && b)
    (ap not (u (is_on a i))
    ∙ sym (unused (list_any (is_on a i) (active_cells t)) (list_any (touches_longer (is_on a i)) t.obstructions) (list_any (list_any (touches (is_on a i))) t.requirements))
    ∙ ap (λ b. not (list_any (is_on a i) (active_cells t)) && b) (rw (obstructions, lists) refl))
  where
    obstructions : not (list_any (touches_longer (is_on a i)) t.obstructions) ≡ list_all (λ g. (length g == 1) || misses a i g) t.obstructions
    obstructions =
        sym (none-not_any (touches_longer (is_on a i)) t.obstructions)
        ∙ list_all-agree (λ g. not (touches_longer (is_on a i) g)) (λ g. (length g == 1) || misses a i g) t.obstructions (λ g m. sym (longer_or_misses (length g == 1) (touches (is_on a i) g)))

    lists : not (list_any (list_any (touches (is_on a i))) t.requirements) ≡ list_all (list_all (misses a i)) t.requirements
    lists =
        sym (none-not_any (list_any (touches (is_on a i))) t.requirements)
        ∙ list_all-agree (λ patterns. not (list_any (touches (is_on a i)) patterns)) (list_all (misses a i)) t.requirements (λ patterns m. sym (none-not_any (touches (is_on a i)) patterns))

-- ---- a tiling's patterns lie in the grid of 8 columns and 8 rows
pub lists_in_eight : (w h : ℕ) (lists : List (List (List Point))) → w ≤ 8 → h ≤ 8 → All (λ patterns. IsInGrid w h patterns) lists → All (λ patterns. IsInGrid 8 8 patterns) lists
lists_in_eight w h lists k l f = all_in (λ patterns. IsInGrid 8 8 patterns) lists (λ patterns m. in_wider_grid w h patterns k l (of_all (λ (ps : List (List Point)). IsInGrid w h ps) f m))

pub used_is : (test : Cell → Bool) (t : Tiles) (active longer used : List Cell) (obstructions : List (List Point)) (lists : List (List (List Point))) → active ≡ active_cells t → obstructions ≡ t.obstructions → lists ≡ t.requirements
    → list_any test longer ≡ (list_any test active || list_any (touches_longer test) obstructions) → list_any test used ≡ (list_any test longer || list_any (list_any (touches test)) lists) → list_any test used ≡ is_used test t
used_is test t active longer used obstructions lists a o l e f = f ∙ rw (e, a, o, l) refl

-- ---- a line that is there, and one that is not
pub line_below : (a : Axis) (i : ℕ) (t : Tiles) → t.width ≤ 8 → t.height ≤ 8 → i < line_of a (sides t) → i < 8
line_below Column i t k l m = omega arith
line_below Row i t k l m = omega arith

pub beyond_is_not_blank : (a : Axis) (i : ℕ) (t : Tiles) → line_of a (sides t) ≤ i → false ≡ is_blank a i t
beyond_is_not_blank a i t m = let far : nat_lt i (line_of a (sides t)) ≡ false = grind (arith, nat_tests) in rw far refl

pub within_is_unused : (a : Axis) (i : ℕ) (t : Tiles) (cells : List Cell) (meets : Bool) → AreUsed cells t → i < line_of a (sides t) → meets ≡ list_any (is_on a i) cells → not meets ≡ is_blank a i t
within_is_unused a i t cells meets u m e =
    let there : nat_lt i (line_of a (sides t)) ≡ true = grind (arith, nat_tests) in ap not e ∙ sym (ap (λ b. b && not (list_any (is_on a i) cells)) there) ∙ blank_is_unused a i t cells u
