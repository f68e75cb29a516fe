-- Tilings of a basis.
use Rattle.std.specs.Prelude.{◌≡◌, ◌<◌, ℕ, List, length, All}
use Rattle.patterns.specs.Occurs.{avoiders}
use Rattle.tiling_core.specs.Tiles.{Tiles, count}

-- there are as many members of each length as permutations that avoid the basis
abbrev pub CountsAvoiders : List (List ℕ) → Tiles → Type 0
CountsAvoiders basis t = (n : ℕ) → count t n ≡ avoiders basis n

abbrev pub HasNoEmptyWord : List (List ℕ) → Type 0
HasNoEmptyWord basis = All (λ w. 0 < length w) basis
