use Rattle.std.proofs.Common.{◌≡◌, take}
use Rattle.std.specs.List.{flat_map}
use Rattle.emptiness.specs.Candidates.{candidates_with}
use Rattle.emptiness.proofs.candidates.candidates.Given as goal

abbrev pub invariant-loop-cell : goal.invariant-loop-cell
invariant-loop-cell l = l.found.items ≡ flat_map (λ c. candidates_with l.cells c) (take l.cell-index l.cells)
