use Rattle.std.proofs.Common.{All, take}
use Rattle.sequences.specs.Bounds.{IsFew}
use Rattle.spec_text.proofs.families.are_few.Given as goal

abbrev pub invariant-loop-trace : goal.invariant-loop-trace
invariant-loop-trace l = All (λ trace. IsFew trace) (take l.trace-index l.traces)
