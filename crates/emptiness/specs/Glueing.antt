-- Which gridded permutations are glued from occurrences, one for each requirement list.
use Rattle.std.specs.Prelude.{ℕ, zero, suc, ◌+◌, ◌-◌, Bool, false, not, ◌&&◌, ◌||◌, cond, List, [], ◌∷◌, length, drop, sum_by}
use Rattle.std.specs.List.{list_any, range_with_len}
use Rattle.gridded.specs.declared.cell.Cell.{Cell}
use Rattle.gridded.specs.Grids.{Point, holds}
use Rattle.gridded.specs.Orders.{cell_eq, cells_of}
use Rattle.tiling_core.specs.Tiles.{Tiles, is_member}
use Rattle.tiling_core.specs.Measures.{longest}
use Rattle.emptiness.specs.Insertion.{fits_at, inserted}

-- the longest patterns of the lists together
abbrev pub weight_of : List (List (List Point)) → ℕ
weight_of lists = sum_by (λ patterns. longest patterns) lists

-- whether the point at a place stands in a cell
abbrev pub stands_in : ℕ → Cell → List Point → Bool
stands_in i c [] = false
stands_in zero c (p ∷ g) = cell_eq p.cell c
stands_in (suc i) c (p ∷ g) = stands_in i c g

-- whether a test is met by g with a further point in the cell c, at place i and with letter l, where it holds no obstruction
abbrev pub joins : List (List Point) → (ℕ → List Point → Bool) → Cell → List Point → ℕ → ℕ → Bool
joins obstructions next c g i l = fits_at i l c g && (not (list_any (λ p. holds (inserted i l c g) p) obstructions) && next (i + 1) (inserted i l c g))

-- the same with any letter
abbrev pub joins_at : List (List Point) → (ℕ → List Point → Bool) → Cell → List Point → ℕ → Bool
joins_at obstructions next c g i = list_any (λ l. joins obstructions next c g i l) (range_with_len 0 (length g + 1))

-- whether a test is met by g alone, where its point at place i stands in the cell c
abbrev pub falls_on : (ℕ → List Point → Bool) → Cell → List Point → ℕ → Bool
falls_on next c g i = stands_in i c g && next (i + 1) g

abbrev pub glues_at : List (List Point) → (ℕ → List Point → Bool) → Cell → List Point → ℕ → Bool
glues_at obstructions next c g i = falls_on next c g i || joins_at obstructions next c g i

-- whether a test is met by g, or by g with further points in some of the cells, each point past the one before and from a place on, where it holds the pattern
unfoldable pub glues : List (List Point) → List Point → (List Point → Bool) → List Cell → ℕ → List Point → Bool
glues obstructions p next [] from g = holds g p && next g
glues obstructions p next (c ∷ cells) from g = list_any (λ i. glues_at obstructions (λ place h. glues obstructions p next cells place h) c g i) (range_with_len from (length g + 1 - from))

-- whether a member is reached from g by patterns of the lists, one of each list that isn't met
unfoldable pub reaches : Tiles → List (List (List Point)) → List Point → Bool
reaches t [] g = is_member t g
reaches t (patterns ∷ lists) g =
    cond (list_any (λ p. holds g p) patterns) (reaches t lists g) (list_any (λ p. glues t.obstructions p (λ h. reaches t lists h) (cells_of p) 0 g) patterns)

-- whether a member is reached with the pattern's points past one, and then the lists from a number on
abbrev pub onward : Tiles → List Point → ℕ → ℕ → ℕ → List Point → Bool
onward t p list taken place h = glues t.obstructions p (λ k. reaches t (drop list t.requirements) k) (drop (taken + 1) (cells_of p)) place h

-- what a list of cells has past its end
abbrev pub corner : Cell
corner = record { x = 0; y = 0 }
