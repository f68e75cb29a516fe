use Rattle.std.proofs.Common.{◌≡◌, ◌++◌, take}
use Rattle.std.specs.List.{flat_map}
use Rattle.emptiness.specs.Candidates.{pairs_of}
use Rattle.emptiness.proofs.candidates.add_with.Given as goal

abbrev pub invariant-loop-other : goal.invariant-loop-other
invariant-loop-other l = l.found.items ≡ l.initial.found.items ++ flat_map (λ d. pairs_of l.cell d) (take l.other-index l.cells)
