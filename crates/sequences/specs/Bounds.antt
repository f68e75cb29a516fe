-- How long a list may be that is kept.
use Rattle.std.specs.Prelude.{◌<◌, List, length}

-- a list that can be kept: the numbers of its items, and sums over it, fit 32 bits
abbrev pub IsFew : {X : Type 0} → List X → Type 0
IsFew xs = length xs < 268435456
