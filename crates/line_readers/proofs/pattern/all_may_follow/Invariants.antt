use Rattle.std.proofs.Common.{◌≡◌, drop}
use Rattle.std.specs.List.{list_all}
use Rattle.gridded.specs.Grids.{may_follow, points}
use Rattle.line_readers.proofs.pattern.all_may_follow.Given as goal

abbrev pub invariant-loop-place : goal.invariant-loop-place
invariant-loop-place l = record {
  told : list_all (λ q. may_follow (record { letter = l.letter; cell = l.cell }) q) (points (drop l.place l.letters) (drop l.place l.cells)) ≡ list_all (λ q. may_follow (record { letter = l.letter; cell = l.cell }) q) (points l.letters l.cells);
}
