-- The two parts of membership that read patterns.
use Rattle.std.specs.Prelude.{Bool, List, not}
use Rattle.std.specs.List.{list_all, list_any}
use Rattle.gridded.specs.Grids.{Point, holds}

abbrev pub holds_none_of : List (List Point) → List Point → Bool
holds_none_of obstructions g = list_all (λ p. not (holds g p)) obstructions

abbrev pub meets_each : List (List (List Point)) → List Point → Bool
meets_each lists g = list_all (λ patterns. list_any (λ p. holds g p) patterns) lists
