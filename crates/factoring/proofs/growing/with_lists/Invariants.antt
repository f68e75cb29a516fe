use Rattle.std.proofs.Common.{◌≡◌, take, Bool}
use Rattle.std.specs.Prelude.{◌||◌}
use Rattle.std.specs.List.{list_any}
use Rattle.gridded.specs.declared.cell.Cell.{Cell}
use Rattle.factoring.specs.Tied.{is_tied}
use Rattle.factoring.proofs.growing.with_lists.Given as goal

abbrev pub invariant-loop-patterns : goal.invariant-loop-patterns
invariant-loop-patterns l = (test : Cell → Bool) → list_any test l.larger ≡ (list_any test l.initial.larger || list_any (is_tied l.set test) (take l.patterns-index l.lists))
