-- Patterns with one of their places.
use Rattle.std.specs.Prelude.{ℕ, List, []}
use Rattle.gridded.specs.Grids.{Point}

pub record PointedPattern : Type 0 where
  pub pattern : List Point
  pub index : ℕ

-- the pattern without points, where no place is pointed to
abbrev pub nothing_pointed : PointedPattern
nothing_pointed = record { pattern = []; index = 0 }
