use Rattle.std.proofs.Common.{◌≡◌, length, take}
use Rattle.std.specs.Prelude.{map}
use Rattle.patterns.specs.Ranks.{rank}
use Rattle.gridded.proofs.part.ranks.Given as goal

abbrev pub invariant-loop-place : goal.invariant-loop-place
invariant-loop-place l = record { room : length l.ranks ≡ 9; so_far : take l.place l.ranks ≡ map (rank l.letters) (take l.place l.letters) }
