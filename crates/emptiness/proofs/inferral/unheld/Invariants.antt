use Rattle.std.proofs.Common.{◌≡◌, take}
use Rattle.std.specs.List.{filter}
use Rattle.emptiness.specs.Candidates.{is_unheld, AreMembers}
use Rattle.emptiness.proofs.inferral.unheld.Given as goal

abbrev pub invariant-loop-pattern : goal.invariant-loop-pattern
invariant-loop-pattern l = record { found : l.found.items ≡ filter (λ p. is_unheld l.tiling p) (take l.pattern-index l.patterns); known : AreMembers l.tiling l.members.items }
