use Rattle.std.proofs.Common.{◌<◌, ℕ, [], get_or}
use Rattle.gridded.specs.Grids.{IsGridded}
use Rattle.rule_kinds.proofs.reading.read_patterns.Given as goal

abbrev pub invariant-loop-pattern : goal.invariant-loop-pattern
invariant-loop-pattern l = (k : ℕ) → k < l.pattern-index → IsGridded (get_or l.patterns k [])
