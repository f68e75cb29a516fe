use Rattle.std.proofs.Common.{◌≡◌, take, Bool}
use Rattle.std.specs.Prelude.{◌||◌}
use Rattle.std.specs.List.{list_any}
use Rattle.gridded.specs.declared.cell.Cell.{Cell}
use Rattle.gridded.specs.Places.{touches}
use Rattle.factoring.proofs.growing.with_patterns.Given as goal

abbrev pub invariant-loop-g : goal.invariant-loop-g
invariant-loop-g l = (test : Cell → Bool) → list_any test l.larger ≡ (list_any test l.initial.larger || list_any (touches test) (take l.g-index l.patterns))
