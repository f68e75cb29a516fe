use Rattle.std.proofs.Common.{◌≡◌, take}
use Rattle.std.specs.List.{list_any}
use Rattle.gridded.specs.CellSets.{cells_that}
use Rattle.normal_form.proofs.RequiredCells.{is_alone_in}
use Rattle.normal_form.proofs.required.required_cells.Given as goal

abbrev pub invariant-loop-patterns : goal.invariant-loop-patterns
invariant-loop-patterns l = l.cells ≡ cells_that (λ c. list_any (is_alone_in c) (take l.patterns-index l.tiling.requirements))
