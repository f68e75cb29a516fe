use Rattle.std.proofs.Common.{◌≡◌, take, Bool}
use Rattle.std.specs.Prelude.{◌||◌}
use Rattle.std.specs.List.{list_any}
use Rattle.gridded.specs.declared.cell.Cell.{Cell}
use Rattle.factoring.proofs.growing.with_pattern.Given as goal

abbrev pub invariant-loop-place : goal.invariant-loop-place
invariant-loop-place l = (test : Cell → Bool) → list_any test l.larger ≡ (list_any test l.initial.larger || list_any test (take l.place l.own))
