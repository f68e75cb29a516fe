use Rattle.std.proofs.Common.{◌≡◌}
use Rattle.gridded.specs.CellSets.{is_among}
use Rattle.gridded.proofs.PartPlaces.{kept_of}
use Rattle.gridded.proofs.smaller.restrict.Given as goal

abbrev pub invariant-loop-place : goal.invariant-loop-place
invariant-loop-place l = l.kept ≡ kept_of (λ c. is_among l.set c) l.letters l.cells l.place
