-- Cells as numbers, and what is held among cells with x and y below 8.
use Rattle.std.proofs.Common.{◌≡◌, ℕ, ◌+◌, ◌<◌, true, List, [], ◌∷◌, ◌++◌, length, get_or, take, drop, set, refl, sym, ap, ◌∙◌, arith, append_assoc}
use Rattle.std.specs.Prelude.{◌&&◌, ◌==◌, nat_lt, map}
use Rattle.std.specs.List.{zip}
use Rattle.std.proofs.lemmas.Bool.{and_parts}
use Rattle.std.proofs.lemmas.Bool.Decides.{nat_tests}
use Rattle.std.proofs.lemmas.List.{take_more_set, map_push, length-map}
use Rattle.patterns.specs.Occurs.{stands_as, stand_alike, contains_in_cells}
use Rattle.patterns.specs.Search.{is_found}
use Rattle.patterns.proofs.Searches.{found_from_start}
use Rattle.gridded.specs.declared.cell.Cell.{Cell}
use Rattle.gridded.specs.CellSets.{bit_of}
use Rattle.gridded.specs.Grids.{Point, corner, holds, letter_of, cell_of, same_cell}
use Rattle.gridded.specs.Orders.{letters_of, cells_of}
use Rattle.gridded.specs.Numbers.{are_small, AreNumbers}
use Rattle.gridded.proofs.FreeBits.{drop-cells, drop-cells-all}

-- ---- one more number
pub small-step : (cells : List Cell) (i : ℕ) → i < length cells → are_small (drop i cells) ≡ ((nat_lt (get_or cells i corner).x 8 && nat_lt (get_or cells i corner).y 8) && are_small (drop (i + 1) cells))
small-step cells i h = rw (drop-cells i cells h) refl

pub numbers-step : (cells : List Cell) (numbers : List ℕ) (i n : ℕ) → i < length cells → i < length numbers → n ≡ bit_of (get_or cells i corner)
    → take i numbers ++ map bit_of (drop i cells) ≡ take (i + 1) (set numbers i n) ++ map bit_of (drop (i + 1) cells)
numbers-step cells numbers i n h k e =
    rw (drop-cells i cells h, take_more_set numbers i n k, e) (sym (append_assoc (take i numbers) (bit_of (get_or cells i corner) ∷ []) (map bit_of (drop (i + 1) cells))))

pub ruleset numbering = (small-step, numbers-step, drop-cells-all)

-- ---- cells with one number are one
one_number : (a b : Cell) → (nat_lt a.x 8 && nat_lt a.y 8) ≡ true → (nat_lt b.x 8 && nat_lt b.y 8) ≡ true → ((a.x == b.x) && (a.y == b.y)) ≡ (bit_of a == bit_of b)
one_number a b h k = grind (arith, nat_tests)

abbrev numbered : Point → ℕ × ℕ
numbered p = (p.letter, bit_of p.cell)

zipped : (w : List Point) → zip (letters_of w) (map bit_of (cells_of w)) ≡ map numbered w
zipped [] = refl
zipped (p ∷ w) = ap (λ t. numbered p ∷ t) (zipped w)

stands_numbered : (x a : Point) (xs ys : List Point) → stands_as letter_of same_cell x a xs ys ≡ stands_as (λ (x : ℕ × ℕ). x.0) (λ x a. x.1 == a.1) (numbered x) (numbered a) (map numbered xs) (map numbered ys)
stands_numbered x a [] [] = refl
stands_numbered x a [] (b ∷ ys) = refl
stands_numbered x a (y ∷ xs) [] = refl
stands_numbered x a (y ∷ xs) (b ∷ ys) = ap (λ t. stand_alike x.letter a.letter y.letter b.letter && t) (stands_numbered x a xs ys)

found_numbered : (xs ys w p : List Point) → are_small (cells_of w) ≡ true → are_small (cells_of p) ≡ true
    → is_found letter_of same_cell xs ys w p ≡ is_found (λ (x : ℕ × ℕ). x.0) (λ x a. x.1 == a.1) (map numbered xs) (map numbered ys) (map numbered w) (map numbered p)
found_numbered xs ys w [] h k = refl
found_numbered xs ys [] (y ∷ p) h k = refl
found_numbered xs ys (x ∷ w) (y ∷ p) h k =
    let own = and_parts (nat_lt x.cell.x 8 && nat_lt x.cell.y 8) (are_small (cells_of w)) h in
    let other = and_parts (nat_lt y.cell.x 8 && nat_lt y.cell.y 8) (are_small (cells_of p)) k in
    rw (one_number x.cell y.cell own.0 other.0, stands_numbered x y xs ys, found_numbered xs ys w (y ∷ p) own.1 k, found_numbered (xs ++ x ∷ []) (ys ++ y ∷ []) w p own.1 other.1, map_push numbered xs x, map_push numbered ys y) refl

-- what occurs among numbers is what is held
pub holds_numbered : (w p : List Point) → are_small (cells_of w) ≡ true → are_small (cells_of p) ≡ true
    → contains_in_cells (letters_of w) (map bit_of (cells_of w)) (letters_of p) (map bit_of (cells_of p)) ≡ holds w p
holds_numbered w p h k =
    rw (zipped w, zipped p)
    (sym (found_from_start (λ (x : ℕ × ℕ). x.0) (λ x a. x.1 == a.1) (map numbered w) (map numbered p)) ∙ sym (found_numbered [] [] w p h k) ∙ found_from_start letter_of same_cell w p)

as_many : (xs : List ℕ) (cells : List Cell) (w : List Point) → xs ≡ letters_of w → cells ≡ cells_of w → length xs ≡ length cells
as_many xs cells w e f = ap length e ∙ length-map w letter_of ∙ sym (length-map w cell_of) ∙ sym (ap length f)

numbers_of : (xs own : List ℕ) (cells : List Cell) (w : List Point) → xs ≡ letters_of w → cells ≡ cells_of w → AreNumbers cells own → take (length xs) own ≡ map bit_of (cells_of w)
numbers_of xs own cells w e f h = ap (λ n. take n own) (as_many xs cells w e f) ∙ h.value ∙ ap (λ t. map bit_of t) f

-- the same of what the fields and the first numbers hold
pub by_numbers : (w p : List Point) (letters own pattern others : List ℕ) (cells pattern_cells : List Cell)
    → letters ≡ letters_of w → cells ≡ cells_of w → AreNumbers cells own → pattern ≡ letters_of p → pattern_cells ≡ cells_of p → AreNumbers pattern_cells others
    → contains_in_cells letters (take (length letters) own) pattern (take (length pattern) others) ≡ holds w p
by_numbers w p letters own pattern others cells pattern_cells e f h e' f' h' =
    rw (numbers_of letters own cells w e f h, numbers_of pattern others pattern_cells p e' f' h', e, e')
    (holds_numbered w p (ap are_small (sym f) ∙ h.small) (ap are_small (sym f') ∙ h'.small))
