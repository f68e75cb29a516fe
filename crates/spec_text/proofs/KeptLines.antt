-- What the types keep of patterns, tilings and bases has lines of the form, in range.
use Rattle.std.proofs.Common.{◌≡◌, ◌≤◌, ◌<◌, ℕ, Bool, true, List, [], ◌∷◌, length, refl, sym, subst, arith}
use Rattle.std.specs.Prelude.{◌&&◌, nat_lt, nat_le, All}
use Rattle.std.specs.List.{list_all}
use Rattle.std.specs.List.Sorted.{IsStrictlySortedBy}
use Rattle.std.specs.Cmp.{first_so, second_so}
use Rattle.std.specs.Cmp.Lexicographic.{slice_cmp}
use Rattle.std.proofs.lemmas.Bool.{and_from}
use Rattle.std.proofs.lemmas.Grind.{common_steps}
use Rattle.std.proofs.lemmas.List.{length-map}
use Rattle.lists.proofs.Members.{of_all}
use Rattle.lists.proofs.Tests.{all_pass}
use Rattle.patterns.specs.Words.{has_no_repeats}
use Rattle.gridded.specs.declared.cell.Cell.{Cell}
use Rattle.gridded.specs.Grids.{Point, IsGridded, letter_of}
use Rattle.gridded.specs.Orders.{gridded_cmp, letters_of, cells_of}
use Rattle.gridded.specs.Places.{fits_grid}
use Rattle.tiling_core.specs.Tiles.{Tiles, IsTiling, AreGridded, IsInGrid}
use Rattle.spec_lines.specs.Forms.{ascending, is_word, is_cell, is_pattern, is_patterns}
use Rattle.spec_lines.specs.Ranges.{is_short, is_inside, is_small, is_small_pattern}
use Rattle.spec_lines.proofs.Ascents.{sorted_ascends}

-- a test that each item passes by what is kept of it
pub tested : {X : Type 0} (P : X → Type 0) (test : X → Bool) (xs : List X) → All P xs → ((x : X) → P x → test x ≡ true) → list_all test xs ≡ true
tested P test xs each passes = all_pass test xs (λ x there. passes x (of_all P each there))

-- ====== patterns ======
cell_inside : (w h : ℕ) (c : Cell) → w ≤ 8 → h ≤ 8 → nat_lt c.x w && nat_lt c.y h ≡ true → (is_cell c ≡ true) × (nat_le c.x 7 && nat_le c.y 7 ≡ true)
cell_inside w h c narrow low e = (grind (arith, common_steps, narrow, low, e), grind (arith, common_steps, narrow, low, e))

also_all : (test other : Cell → Bool) (cells : List Cell) → list_all test cells ≡ true → ((c : Cell) → test c ≡ true → other c ≡ true) → list_all other cells ≡ true
also_all test other [] h each = refl
also_all test other (c ∷ cells) h each = and_from (other c) (list_all other cells) (each c (first_so (test c) (list_all test cells) h)) (also_all test other cells (second_so (test c) (list_all test cells) h) each)

pub short_word : (w : List ℕ) → 0 < length w → length w ≤ 9 → list_all (λ x. nat_lt x (length w)) w ≡ true → has_no_repeats w ≡ true → is_word w ≡ true
short_word [] some short below distinct = absurd (omega (arith, some))
short_word (x ∷ w) some short below distinct =
    let few : nat_le (length (x ∷ w)) 10 ≡ true = grind (arith, common_steps, short) in
    and_from (true && nat_le (length (x ∷ w)) 10 && list_all (λ y. nat_lt y (length (x ∷ w))) (x ∷ w)) (has_no_repeats (x ∷ w))
    (and_from (true && nat_le (length (x ∷ w)) 10) (list_all (λ y. nat_lt y (length (x ∷ w))) (x ∷ w)) few below) distinct

letters_below : (n : ℕ) (g : List Point) → All (λ (p : Point). p.letter < n) g → list_all (λ x. nat_lt x n) (letters_of g) ≡ true
letters_below n g each =
    let passes : (p : Point) → p.letter < n → nat_lt p.letter n ≡ true = λ p h. grind (arith, common_steps, h) in
    list_all_letters g (tested (λ (p : Point). p.letter < n) (λ p. nat_lt p.letter n) g each passes)
  where
    list_all_letters : (h : List Point) → list_all (λ p. nat_lt p.letter n) h ≡ true → list_all (λ x. nat_lt x n) (letters_of h) ≡ true
    list_all_letters [] e = refl
    list_all_letters (p ∷ h) e = and_from (nat_lt p.letter n) (list_all (λ x. nat_lt x n) (letters_of h)) (first_so (nat_lt p.letter n) (list_all (λ p. nat_lt p.letter n) h) e) (list_all_letters h (second_so (nat_lt p.letter n) (list_all (λ p. nat_lt p.letter n) h) e))

-- a gridded permutation in a grid of at most eight columns and rows is a pattern
pub pattern_kept : (w h : ℕ) (g : List Point) → w ≤ 8 → h ≤ 8 → IsGridded g → fits_grid w h g ≡ true → is_pattern g ≡ true
pattern_kept w h [] narrow low kept inside = refl
pattern_kept w h (p ∷ g) narrow low kept inside =
    let long : length (letters_of (p ∷ g)) ≡ length (p ∷ g) = length-map (p ∷ g) letter_of in
    let below = subst (λ n. list_all (λ x. nat_lt x n) (letters_of (p ∷ g)) ≡ true) (sym long) (letters_below (length (p ∷ g)) (p ∷ g) kept.below) in
    let short : length (letters_of (p ∷ g)) ≤ 9 = subst (λ n. n ≤ 9) (sym long) kept.short in
    let word = short_word (letters_of (p ∷ g)) (omega arith) short below kept.distinct in
    let cells = also_all (λ c. nat_lt c.x w && nat_lt c.y h) is_cell (cells_of (p ∷ g)) inside (λ c e. (cell_inside w h c narrow low e).0) in
    and_from (is_word (letters_of (p ∷ g)) && list_all is_cell (cells_of (p ∷ g))) _ (and_from (is_word (letters_of (p ∷ g))) (list_all is_cell (cells_of (p ∷ g))) word cells) kept.consistent

pub short_kept : (g : List Point) → IsGridded g → is_short g ≡ true
short_kept g kept = let short = kept.short in grind (arith, common_steps, short)

pub inside_kept : (w h : ℕ) (g : List Point) → IsGridded g → fits_grid w h g ≡ true → is_inside w h g ≡ true
inside_kept w h g kept inside = and_from (is_short g) (fits_grid w h g) (short_kept g kept) inside

pub small_kept : (w h : ℕ) (g : List Point) → w ≤ 8 → h ≤ 8 → IsGridded g → fits_grid w h g ≡ true → is_small_pattern g ≡ true
small_kept w h g narrow low kept inside =
    and_from (is_short g) (is_small (cells_of g)) (short_kept g kept) (also_all (λ c. nat_lt c.x w && nat_lt c.y h) (λ c. nat_le c.x 7 && nat_le c.y 7) (cells_of g) inside (λ c e. (cell_inside w h c narrow low e).1))

-- ====== lists of patterns ======
each_pattern : (w h : ℕ) (gs : List (List Point)) → w ≤ 8 → h ≤ 8 → AreGridded gs → IsInGrid w h gs → list_all is_pattern gs ≡ true
each_pattern w h gs narrow low kept inside = all_pass is_pattern gs (λ g there. pattern_kept w h g narrow low (of_all (λ g. IsGridded g) kept there) (of_all (λ g. fits_grid w h g ≡ true) inside there))

pub each_inside : (w h : ℕ) (gs : List (List Point)) → AreGridded gs → IsInGrid w h gs → list_all (λ g. is_inside w h g) gs ≡ true
each_inside w h gs kept inside = all_pass (λ g. is_inside w h g) gs (λ g there. inside_kept w h g (of_all (λ g. IsGridded g) kept there) (of_all (λ g. fits_grid w h g ≡ true) inside there))

pub patterns_kept : (w h : ℕ) (gs : List (List Point)) → w ≤ 8 → h ≤ 8 → AreGridded gs → IsInGrid w h gs → IsStrictlySortedBy gridded_cmp gs → is_patterns gs ≡ true
patterns_kept w h gs narrow low kept inside sorted = and_from (list_all is_pattern gs) (ascending gridded_cmp gs) (each_pattern w h gs narrow low kept inside) (sorted_ascends gridded_cmp gs sorted)

-- ====== tilings ======
pub obstructions_kept : (t : Tiles) → IsTiling t → is_patterns t.obstructions ≡ true
obstructions_kept t k = patterns_kept t.width t.height t.obstructions k.narrow k.low k.obstructions_gridded k.obstructions_in k.obstructions_ascend

pub obstructions_inside : (t : Tiles) → IsTiling t → list_all (λ g. is_inside t.width t.height g) t.obstructions ≡ true
obstructions_inside t k = each_inside t.width t.height t.obstructions k.obstructions_gridded k.obstructions_in

pub requirements_kept : (t : Tiles) → IsTiling t → list_all is_patterns t.requirements && ascending (slice_cmp gridded_cmp) t.requirements ≡ true
requirements_kept t k =
    and_from (list_all is_patterns t.requirements) (ascending (slice_cmp gridded_cmp) t.requirements)
    (all_pass is_patterns t.requirements (λ gs there. patterns_kept t.width t.height gs k.narrow k.low
    (of_all (λ patterns. AreGridded patterns) k.requirements_gridded there) (of_all (λ patterns. IsInGrid t.width t.height patterns) k.requirements_in there) (of_all (λ patterns. IsStrictlySortedBy gridded_cmp patterns) k.each_ascends there)))
    (sorted_ascends (slice_cmp gridded_cmp) t.requirements k.requirements_ascend)

pub requirements_inside : (t : Tiles) → IsTiling t → list_all (λ gs. list_all (λ g. is_inside t.width t.height g) gs) t.requirements ≡ true
requirements_inside t k = all_pass (λ gs. list_all (λ g. is_inside t.width t.height g) gs) t.requirements (λ gs there. each_inside t.width t.height gs (of_all (λ patterns. AreGridded patterns) k.requirements_gridded there) (of_all (λ patterns. IsInGrid t.width t.height patterns) k.requirements_in there))
