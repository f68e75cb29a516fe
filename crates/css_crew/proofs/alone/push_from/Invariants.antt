use Rattle.std.proofs.Common.{◌≡◌, take}
use Rattle.css_domain.specs.Ledgers.{records}
use Rattle.css_crew.proofs.alone.push_from.Given as goal

abbrev pub invariant-loop-position : goal.invariant-loop-position
invariant-loop-position g l = l.pruner ≡ take l.position (records g.D.Domain.meaning l.ledger)
