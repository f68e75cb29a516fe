use Rattle.std.proofs.Common.{◌≡◌, ◌-◌, length}
use Rattle.css_domain.specs.Ledgers.{records}
use Rattle.css_crew.specs.Crews.{IsFilled}
use Rattle.css_crew.proofs.finish.go_on.Given as goal

abbrev pub invariant-loop-pruner : goal.invariant-loop-pruner
invariant-loop-pruner g l = IsFilled g.D.Domain.meaning l.fn.ledger.root l.fn.ledger.budget (g.E.Expander.rulebook_of l.expander) l.ledger × (l.pruner ≡ records g.D.Domain.meaning l.ledger)

abbrev pub decreases-loop-pruner : goal.decreases-loop-pruner
decreases-loop-pruner g l = l.ledger.budget - length l.ledger.journal
