use Rattle.std.proofs.Common.{◌≡◌, take}
use Rattle.std.specs.List.{filter, list_all}
use Rattle.gridded.specs.CellSets.{is_among}
use Rattle.gridded.specs.Parts.{lies_in}
use Rattle.factoring.proofs.children.lists_in.Given as goal

abbrev pub invariant-loop-patterns : goal.invariant-loop-patterns
invariant-loop-patterns l = l.kept.items ≡ filter (λ patterns. list_all (lies_in (is_among l.set)) patterns) (take l.patterns-index l.lists)
