use Rattle.std.proofs.Common.{◌≡◌, ◌++◌, length, take, drop}
use Rattle.std.specs.Prelude.{map}
use Rattle.gridded.specs.CellSets.{bit_of}
use Rattle.gridded.specs.Numbers.{are_small}
use Rattle.gridded.proofs.number.numbers.Given as goal

abbrev pub invariant-loop-place : goal.invariant-loop-place
invariant-loop-place l =
    (length l.numbers ≡ 9)
    × (are_small l.cells ≡ are_small (drop l.place l.cells))
    × (map bit_of l.cells ≡ take l.place l.numbers ++ map bit_of (drop l.place l.cells))
