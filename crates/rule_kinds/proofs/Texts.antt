-- Patterns by their letters, and by their cells as two digits.
use Rattle.std.specs.Prelude.{ℕ, List, [], ◌∷◌, map, ◌/◌, ◌%◌, false}
use Rattle.gridded.specs.declared.cell.Cell.{Cell}
use Rattle.gridded.specs.Grids.{Point, points}
use Rattle.rule_kinds.specs.Choices.{Packs}
use Rattle.rule_kinds.specs.Pointeds.{PointedPattern}

-- a cell by its two digits
abbrev pub cell : ℕ → Cell
cell n = record { x = n / 10; y = n % 10 }

abbrev pub pattern_of : List ℕ → List ℕ → List Point
pattern_of letters cells = points letters (map cell cells)

abbrev pub dot : ℕ → List Point
dot c = pattern_of (0 ∷ []) (c ∷ [])

abbrev pub p01 : ℕ → ℕ → List Point
p01 c d = pattern_of (0 ∷ 1 ∷ []) (c ∷ d ∷ [])

abbrev pub p10 : ℕ → ℕ → List Point
p10 c d = pattern_of (1 ∷ 0 ∷ []) (c ∷ d ∷ [])

abbrev pub p021 : ℕ → ℕ → ℕ → List Point
p021 c d e = pattern_of (0 ∷ 2 ∷ 1 ∷ []) (c ∷ d ∷ e ∷ [])

-- a pattern pointed at a place
abbrev pub pointing : List Point → ℕ → PointedPattern
pointing g index = record { pattern = g; index = index }

abbrev pub no_letters : Packs
no_letters = record { i = false; r = false; c = false; p = false; f = false; s = false; n = false }
