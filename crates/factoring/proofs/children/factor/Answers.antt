use Rattle.factoring.proofs.Fitting.{all_fit, lists_fit}
use Rattle.factoring.proofs.children.factor.Goals as goal

pub in_grid-requires-clause-obstructions_in : goal.in_grid-requires-clause-obstructions_in
in_grid-requires-clause-obstructions_in c = all_fit c.args.tiling.now c.args.set c.read.ensures _ _ _ _ _ c.width.ensures.value c.height.ensures.value c.in_ok-obstructions.ensures c.in_ok-kept.ensures c.in_ok-append.ensures.items

pub in_grid-requires-clause-requirements_in : goal.in_grid-requires-clause-requirements_in
in_grid-requires-clause-requirements_in c = lists_fit c.args.tiling.now c.args.set c.read.ensures _ _ _ _ c.width.ensures.value c.height.ensures.value c.requirements.ensures.value c.in_ok-lists.ensures
