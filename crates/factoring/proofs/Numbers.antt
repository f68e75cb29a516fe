-- Cells outside of sets, and cells by their numbers.
use Rattle.std.proofs.Common.{◌≡◌, ◌<◌, Bool, true, false, List, refl, sym, ap, ◌∙◌, subst, arith}
use Rattle.std.specs.Prelude.{◌||◌, not, map}
use Rattle.std.specs.List.{list_all, range_with_len}
use Rattle.std.proofs.lemmas.List.Folds.{list_all-map}
use Rattle.lists.specs.Members.{IsIn}
use Rattle.lists.proofs.Members.{from_IsIn-filter}
use Rattle.lists.proofs.Tests.{same_test, each_passes, all_pass, list_all-agree}
use Rattle.gridded.specs.declared.cell.Cell.{Cell}
use Rattle.gridded.specs.Grids.{cells_in}
use Rattle.gridded.specs.Laws.{IsCellOf}
use Rattle.gridded.specs.CellSets.{is_among, cells_that, IsCellSet}
use Rattle.gridded.proofs.CellSets.{outside, is_among_decides, in_set}
use Rattle.gridded.proofs.GriddedLists.{from_IsIn-cells_in}
use Rattle.factoring.specs.Numbered.{cell_of, pass_by_number}

-- a cell with a large coordinate is in no set
pub far_outside : (set : List Cell) (c : Cell) → IsCellSet set → 7 < c.x → false ≡ is_among set c
far_outside set c s far = sym (outside set c s (λ k. omega (arith, k.0)))

pub high_outside : (set : List Cell) (c : Cell) → IsCellSet set → 7 < c.y → false ≡ is_among set c
high_outside set c s far = sym (outside set c s (λ k. omega (arith, k.1)))

-- the cells of a set are among the 64
pub in_eight : (set : List Cell) (c : Cell) → IsCellSet set → IsIn c set → IsIn c (cells_in 8 8)
unfolding cells_that
in_eight set c s m = (from_IsIn-filter (λ d. is_among set d) (cells_in 8 8) (subst (λ (cells : List Cell). IsIn c cells) s m)).0

pub below_eight : (set : List Cell) (c : Cell) → IsCellSet set → IsIn c set → IsCellOf 8 8 c
below_eight set c s m = from_IsIn-cells_in 8 8 c (in_eight set c s m)

-- ---- cells by their numbers
pub in_number_order : map cell_of (range_with_len 0 64) ≡ cells_in 8 8
in_number_order = refl

pub by_numbers : (test : Cell → Bool) → list_all (λ n. test (cell_of n)) (range_with_len 0 64) ≡ list_all test (cells_in 8 8)
by_numbers test = sym (list_all-map test cell_of (range_with_len 0 64)) ∙ ap (λ cells. list_all test cells) in_number_order

unless_false : (a b : Bool) → (a ≡ true → b ≡ true) → (not a || b) ≡ true
unless_false true b h = h refl
unless_false false b h = refl

so_true : (a b : Bool) → (not a || b) ≡ true → a ≡ true → b ≡ true
so_true true b h e = h
so_true false b h e = absurd cc

-- a test of the cells of a set, number by number
pub numbers : (test : Cell → Bool) (cells : List Cell) → IsCellSet cells → list_all (λ n. not (is_among cells (cell_of n)) || test (cell_of n)) (range_with_len 0 64) ≡ list_all test cells
numbers test cells s =
    by_numbers (λ c. not (is_among cells c) || test c)
    ∙ same_test (list_all (λ c. not (is_among cells c) || test c) (cells_in 8 8)) (list_all test cells)
    (λ e. all_pass test cells (λ c m. so_true (is_among cells c) (test c) (each_passes (λ d. not (is_among cells d) || test d) e (in_eight cells c s m)) ((is_among_decides cells c).1 m)))
    (λ e. all_pass (λ c. not (is_among cells c) || test c) (cells_in 8 8) (λ c m. unless_false (is_among cells c) (test c) (λ a. each_passes test e (in_set cells c a))))

pub numbers_twice : (test : Cell → Cell → Bool) (cells : List Cell) → IsCellSet cells → pass_by_number (λ c. pass_by_number (test c) cells) cells ≡ list_all (λ c. list_all (test c) cells) cells
numbers_twice test cells s =
    numbers (λ c. pass_by_number (test c) cells) cells s
    ∙ list_all-agree (λ c. pass_by_number (test c) cells) (λ c. list_all (test c) cells) cells (λ c m. numbers (test c) cells s)
