-- Laws of the definitions, as facts that clauses can name.
use Rattle.std.specs.Prelude.{◌≡◌, ◌<◌, ◌↔◌, ℕ, true, List, length}
use Rattle.std.specs.List.{AllByRecursion}
use Rattle.patterns.specs.Words.{has_no_repeats}
use Rattle.gridded.specs.declared.cell.Cell.{Cell}
use Rattle.gridded.specs.Grids.{Point, is_consistent, gridded_of}
use Rattle.gridded.specs.Orders.{letters_of, cells_of}
use Rattle.lists.specs.Members.{IsIn, NoRepeats}

abbrev pub IsCellOf : ℕ → ℕ → Cell → Type 0
IsCellOf w h c = (c.x < w) × (c.y < h)

-- n letters below n, each once, in consistent cells of the grid of w columns and h rows
pub record IsGriddedOf (w h n : ℕ) (g : List Point) : Type 0 where
  pub as_long : length g ≡ n
  pub below : AllByRecursion (λ l. l < n) (letters_of g)
  pub distinct : has_no_repeats (letters_of g) ≡ true
  pub consistent : is_consistent g ≡ true
  pub in_grid : AllByRecursion (λ c. IsCellOf w h c) (cells_of g)

abbrev pub GriddedAreListed : Type 0
GriddedAreListed = (w h n : ℕ) (g : List Point) → IsIn g (gridded_of w h n) ↔ IsGriddedOf w h n g

abbrev pub GriddedAreListedOnce : Type 0
GriddedAreListedOnce = (w h n : ℕ) → NoRepeats (gridded_of w h n)
