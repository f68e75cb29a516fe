use Rattle.std.proofs.Common.{◌≡◌, drop}
use Rattle.gridded.specs.Grids.{is_consistent, points}
use Rattle.line_readers.proofs.pattern.fit_together.Given as goal

abbrev pub invariant-loop-place : goal.invariant-loop-place
invariant-loop-place l = record { told : is_consistent (points (drop l.place l.letters) (drop l.place l.cells)) ≡ is_consistent (points l.letters l.cells) }
