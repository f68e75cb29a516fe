-- What the list of all gridded permutations has, each once.
use Rattle.std.proofs.Common.{ℕ, ◌<◌, List, [], ◌∷◌, ap, sym, subst, ◌∙◌, arith}
use Rattle.std.specs.Prelude.{map}
use Rattle.std.specs.List.{range_with_len, AllByRecursion}
use Rattle.std.proofs.lemmas.Bool.{and_parts, and_from}
use Rattle.patterns.specs.Words.{has_no_repeats}
use Rattle.gridded.specs.declared.cell.Cell.{Cell}
use Rattle.gridded.specs.Grids.{Point, cells_in, points_in, gridded_of, is_gridded, is_consistent}
use Rattle.gridded.specs.Orders.{letters_of, cells_of}
use Rattle.gridded.specs.Laws.{IsCellOf, IsGriddedOf}
use Rattle.lists.specs.Members.{IsIn, NoRepeats}
use Rattle.lists.proofs.Members.{IsIn-map, IsIn-filter, from_IsIn-map, from_IsIn-filter, IsIn-flat_map, from_IsIn-flat_map}
use Rattle.lists.proofs.Repeats.{NoRepeats-map, NoRepeats-filter, NoRepeats-flat_map}
use Rattle.lists.proofs.Ranges.{IsIn-range_with_len, in_range_with_len, NoRepeats-range_with_len}
use Rattle.lists.proofs.Words.{IsIn-words, from_IsIn-words, NoRepeats-words}
use Rattle.lists.specs.Words.{words}

-- ---- cells and points
abbrev column_of : ℕ → ℕ → List Cell
column_of h x = map (λ y. record { x = x; y = y }) (range_with_len 0 h)

pub IsIn-cells_in : (w h : ℕ) (c : Cell) → IsCellOf w h c → IsIn c (cells_in w h)
IsIn-cells_in w h c k =
    IsIn-flat_map (λ (x : ℕ). column_of h x) (in_range_with_len 0 w c.x (omega arith) (omega (arith, k.0)))
    (IsIn-map (λ (y : ℕ). let d : Cell = record { x = c.x; y = y } in d) (in_range_with_len 0 h c.y (omega arith) (omega (arith, k.1))))

pub from_IsIn-cells_in : (w h : ℕ) (c : Cell) → IsIn c (cells_in w h) → IsCellOf w h c
from_IsIn-cells_in w h c k =
    let at = from_IsIn-flat_map (λ (x : ℕ). column_of h x) (range_with_len 0 w) k in
    let there = from_IsIn-map {Y = Cell} (λ y. record { x = at.0; y = y }) (range_with_len 0 h) at.2 in
    let left = IsIn-range_with_len 0 w at.0 at.1 in
    let low = IsIn-range_with_len 0 h there.0 there.1 in
    rw there.2 (omega (arith, left.1), omega (arith, low.1))

abbrev with_letter : ℕ → ℕ → ℕ → List Point
with_letter w h l = map (λ c. record { letter = l; cell = c }) (cells_in w h)

IsIn-points_in : (w h n : ℕ) (p : Point) → p.letter < n → IsCellOf w h p.cell → IsIn p (points_in w h n)
IsIn-points_in w h n p b k =
    IsIn-flat_map (λ (l : ℕ). with_letter w h l) (in_range_with_len 0 n p.letter (omega arith) (omega (arith, b)))
    (IsIn-map (λ (c : Cell). let q : Point = record { letter = p.letter; cell = c } in q) (IsIn-cells_in w h p.cell k))

from_IsIn-points_in : (w h n : ℕ) (p : Point) → IsIn p (points_in w h n) → (p.letter < n) × IsCellOf w h p.cell
from_IsIn-points_in w h n p k =
    let at = from_IsIn-flat_map (λ (l : ℕ). with_letter w h l) (range_with_len 0 n) k in
    let there = from_IsIn-map {Y = Point} (λ c. record { letter = at.0; cell = c }) (cells_in w h) at.2 in
    let low = IsIn-range_with_len 0 n at.0 at.1 in
    rw there.2 (omega (arith, low.1), from_IsIn-cells_in w h there.0 there.1)

all_in : (w h n : ℕ) (g : List Point) → AllByRecursion (λ l. l < n) (letters_of g) → AllByRecursion (λ c. IsCellOf w h c) (cells_of g) → AllByRecursion (λ p. IsIn p (points_in w h n)) g
all_in w h n [] b k = tt
all_in w h n (p ∷ g) b k = (IsIn-points_in w h n p b.0 k.0, all_in w h n g b.1 k.1)

from_all_in : (w h n : ℕ) (g : List Point) → AllByRecursion (λ p. IsIn p (points_in w h n)) g → AllByRecursion (λ l. l < n) (letters_of g) × AllByRecursion (λ c. IsCellOf w h c) (cells_of g)
from_all_in w h n [] k = (tt, tt)
from_all_in w h n (p ∷ g) k = let at = from_IsIn-points_in w h n p k.0 in let rest = from_all_in w h n g k.1 in ((at.0, rest.0), (at.1, rest.1))

-- ---- gridded permutations
pub IsIn-gridded_of : (w h n : ℕ) (g : List Point) → IsGriddedOf w h n g → IsIn g (gridded_of w h n)
IsIn-gridded_of w h n g k =
    IsIn-filter is_gridded (subst (λ m. IsIn g (words (points_in w h n) m)) k.as_long (IsIn-words (points_in w h n) g (all_in w h n g k.below k.in_grid)))
    (and_from (has_no_repeats (letters_of g)) (is_consistent g) k.distinct k.consistent)

pub from_IsIn-gridded_of : (w h n : ℕ) (g : List Point) → IsIn g (gridded_of w h n) → IsGriddedOf w h n g
from_IsIn-gridded_of w h n g k =
    let kept = from_IsIn-filter is_gridded (words (points_in w h n) n) k in
    let tests = and_parts (has_no_repeats (letters_of g)) (is_consistent g) kept.1 in
    let word = from_IsIn-words (points_in w h n) n g kept.0 in
    let each = from_all_in w h n g word.0 in
    record { as_long = word.1; below = each.0; distinct = tests.0; consistent = tests.1; in_grid = each.1 }

-- ---- no repeats
pub NoRepeats-cells_in : (w h : ℕ) → NoRepeats (cells_in w h)
NoRepeats-cells_in w h =
    NoRepeats-flat_map (λ (x : ℕ). map (λ y. record { x = x; y = y }) (range_with_len 0 h))
    (λ x. NoRepeats-map {Y = Cell} (λ y. record { x = x; y = y }) (λ a b e. ap (λ (c : Cell). c.y) e) (NoRepeats-range_with_len 0 h))
    (λ x z c a b. let k = from_IsIn-map {Y = Cell} (λ y. record { x = x; y = y }) (range_with_len 0 h) a in let m = from_IsIn-map {Y = Cell} (λ y. record { x = z; y = y }) (range_with_len 0 h) b in
    sym (ap (λ (d : Cell). d.x) k.2) ∙ ap (λ (d : Cell). d.x) m.2)
    (NoRepeats-range_with_len 0 w)

pub NoRepeats-points_in : (w h n : ℕ) → NoRepeats (points_in w h n)
NoRepeats-points_in w h n =
    NoRepeats-flat_map (λ (l : ℕ). map (λ c. record { letter = l; cell = c }) (cells_in w h))
    (λ l. NoRepeats-map {Y = Point} (λ c. record { letter = l; cell = c }) (λ a b e. ap (λ (p : Point). p.cell) e) (NoRepeats-cells_in w h))
    (λ x z c a b. let k = from_IsIn-map {Y = Point} (λ c. record { letter = x; cell = c }) (cells_in w h) a in let m = from_IsIn-map {Y = Point} (λ c. record { letter = z; cell = c }) (cells_in w h) b in
    sym (ap (λ (d : Point). d.letter) k.2) ∙ ap (λ (d : Point). d.letter) m.2)
    (NoRepeats-range_with_len 0 n)

pub NoRepeats-gridded_of : (w h n : ℕ) → NoRepeats (gridded_of w h n)
NoRepeats-gridded_of w h n = NoRepeats-filter is_gridded (NoRepeats-words (NoRepeats-points_in w h n) n)
