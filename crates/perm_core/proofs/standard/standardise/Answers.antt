use Rattle.std.proofs.Common.{subst, sym, List, ℕ}
use Rattle.patterns.specs.Occurs.{IsSameOrder}
use Rattle.patterns.proofs.Standard.{standardised_same_order}
use Rattle.perm_core.proofs.standard.standardise.Goals as goal

pub returns-in-None-clause-order : goal.returns-in-None-clause-order
returns-in-None-clause-order c =
    subst (λ (p : List ℕ). IsSameOrder p c.args.digits.now) (sym c.standardised.ensures) (standardised_same_order c.args.digits.now)
