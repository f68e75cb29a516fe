use Rattle.std.proofs.Common.{◌≡◌, ◌++◌, take}
use Rattle.gridded.specs.Grids.{points}
use Rattle.gridded.proofs.part.Part.extend.Given as goal

abbrev pub invariant-loop-place : goal.invariant-loop-place
invariant-loop-place l = l.self ≡ l.initial.self ++ points (take l.place l.letters) (take l.place l.cells)
