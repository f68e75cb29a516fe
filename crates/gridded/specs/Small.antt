-- Patterns of one point and of two.
use Rattle.std.specs.Prelude.{[], ◌∷◌, List}
use Rattle.gridded.specs.declared.cell.Cell.{Cell}
use Rattle.gridded.specs.Grids.{Point, points}

-- the patterns 0:c, 01:c.d and 10:c.d
abbrev pub point_at : Cell → List Point
point_at c = points (0 ∷ []) (c ∷ [])

abbrev pub rising : Cell → Cell → List Point
rising c d = points (0 ∷ 1 ∷ []) (c ∷ d ∷ [])

abbrev pub falling : Cell → Cell → List Point
falling c d = points (1 ∷ 0 ∷ []) (c ∷ d ∷ [])
