use Rattle.std.proofs.Common.{◌≡◌, ◌-◌, length}
use Rattle.std.specs.Prelude.{IsTrue}
use Rattle.css_domain.specs.Ledgers.{records}
use Rattle.css_domain.specs.Reasons.{RootStands}
use Rattle.css_crew.specs.Ways.{IsOnTheWay}
use Rattle.css_crew.proofs.alone.search.Given as goal

abbrev pub invariant-loop-pruner : goal.invariant-loop-pruner
invariant-loop-pruner g l = IsOnTheWay g.D.Domain.meaning l.fn.root l.fn.budget (g.E.Expander.rulebook_of l.expander) l.ledger × (IsTrue l.waits → RootStands g.D.Domain.meaning l.ledger → ⊥) × (l.pruner ≡ records g.D.Domain.meaning l.ledger)

abbrev pub decreases-loop-pruner : goal.decreases-loop-pruner
decreases-loop-pruner g l = l.ledger.budget - length l.ledger.journal
