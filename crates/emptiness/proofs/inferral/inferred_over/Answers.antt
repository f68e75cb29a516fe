use Rattle.std.proofs.Common.{◌∙◌}
use Rattle.emptiness.proofs.SmallPatterns.{candidates-small, inferred_in_order}
use Rattle.emptiness.proofs.Inferring.{inferred_is}
use Rattle.emptiness.proofs.inferral.inferred_over.Goals as goal

pub unheld-requires-clause-small : goal.unheld-requires-clause-small
unheld-requires-clause-small c = candidates-small c.args.cells.now c.deref-2.result.now (c.deref-2.ensures.value ∙ c.in_ok-all.ensures)

pub returns-clause-exact : goal.returns-clause-exact
returns-clause-exact c =
    inferred_in_order c.args.tiling.now c.args.cells.now c.deref-2.result.now c.in_ok-found.found.items c.into_vec.result.items c.requires.active (c.deref-2.ensures.value ∙ c.in_ok-all.ensures) c.in_ok-found.ensures (c.into_vec.ensures ∙ c.in_ok-ascending.ensures.value)

pub returns-clause-listed : goal.returns-clause-listed
returns-clause-listed c = inferred_is c.args.tiling.now c.into_vec.result.items (returns-clause-exact c)
