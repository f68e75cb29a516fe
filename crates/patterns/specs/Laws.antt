-- Laws of the definitions, as facts that clauses can name.
use Rattle.std.specs.Prelude.{◌≡◌, ◌<◌, ◌↔◌, ℕ, true, List, length, Decides}
use Rattle.std.specs.List.{AllByRecursion}
use Rattle.patterns.specs.Occurs.{contains, Contains, contains_in_cells, ContainsInCells}
use Rattle.patterns.specs.Words.{all_perms, has_no_repeats}
use Rattle.lists.specs.Members.{IsIn, NoRepeats}

abbrev pub ContainmentIsDecided : Type 0
ContainmentIsDecided = (w p : List ℕ) → Decides (contains w p) (Contains w p)

abbrev pub ContainmentInCellsIsDecided : Type 0
ContainmentInCellsIsDecided = (w w_cells p p_cells : List ℕ) → Decides (contains_in_cells w w_cells p p_cells) (ContainsInCells w w_cells p p_cells)

abbrev pub PermutationsAreListedOnce : Type 0
PermutationsAreListedOnce = (n : ℕ) → NoRepeats (all_perms n)

-- a word of n letters below n, none of which stands twice
pub record IsPermutationOf (n : ℕ) (w : List ℕ) : Type 0 where
  pub as_long : length w ≡ n
  pub below : AllByRecursion (λ x. x < n) w
  pub distinct : has_no_repeats w ≡ true

abbrev pub PermutationsAreListed : Type 0
PermutationsAreListed = (n : ℕ) (w : List ℕ) → IsIn w (all_perms n) ↔ IsPermutationOf n w
