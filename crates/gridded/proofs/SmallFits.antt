-- Patterns of no point, of one and of two are gridded permutations.
use Rattle.std.proofs.Common.{◌≡◌, ◌<◌, ◌≤◌, true, [], ◌∷◌, List, length, refl, arith}
use Rattle.std.specs.List.{AllByRecursion}
use Rattle.std.proofs.lemmas.List.Elements.{All-from_recursion}
use Rattle.std.proofs.lemmas.Bool.Decides.{nat_tests}
use Rattle.patterns.specs.Words.{has_no_repeats}
use Rattle.gridded.specs.declared.cell.Cell.{Cell}
use Rattle.gridded.specs.Grids.{Point, is_consistent, IsGridded, FitTogether}
use Rattle.gridded.specs.Orders.{letters_of}
use Rattle.gridded.specs.Small.{point_at, rising, falling}
use Rattle.gridded.proofs.Moved.{so_is_true}

pub consistent-rising : (c d : Cell) → c.x ≤ d.x → c.y ≤ d.y → is_consistent (rising c d) ≡ true
consistent-rising c d h k = grind (arith, nat_tests)

pub consistent-falling : (c d : Cell) → c.x ≤ d.x → d.y ≤ c.y → is_consistent (falling c d) ≡ true
consistent-falling c d h k = grind (arith, nat_tests)

-- distinct letters below the length, in consistent cells
pub IsGridded-from_tests : (g : List Point) → length g ≤ 9 → AllByRecursion (λ (p : Point). p.letter < length g) g → has_no_repeats (letters_of g) ≡ true → is_consistent g ≡ true → IsGridded g
IsGridded-from_tests g few below d c = record { short = few; below = All-from_recursion (λ (p : Point). p.letter < length g) g below; distinct = so_is_true _ d; consistent = so_is_true _ c }

pub fit-none : FitTogether [] []
fit-none = record { as_many = refl; gridded = IsGridded-from_tests [] (omega arith) tt refl refl }

pub fit-point : (c : Cell) → FitTogether (0 ∷ []) (c ∷ [])
fit-point c = record { as_many = refl; gridded = IsGridded-from_tests (point_at c) (omega arith) (omega arith, tt) refl refl }

pub fit-rising : (c d : Cell) → c.x ≤ d.x → c.y ≤ d.y → FitTogether (0 ∷ 1 ∷ []) (c ∷ d ∷ [])
fit-rising c d h k = record { as_many = refl; gridded = IsGridded-from_tests (rising c d) (omega arith) (omega arith, (omega arith, tt)) refl (consistent-rising c d h k) }

pub fit-falling : (c d : Cell) → c.x ≤ d.x → d.y ≤ c.y → FitTogether (1 ∷ 0 ∷ []) (c ∷ d ∷ [])
fit-falling c d h k = record { as_many = refl; gridded = IsGridded-from_tests (falling c d) (omega arith) (omega arith, (omega arith, tt)) refl (consistent-falling c d h k) }

pub ruleset fitting = (fit-none, fit-point, fit-rising, fit-falling)
