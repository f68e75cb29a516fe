use Rattle.emptiness.proofs.Inferring.{inferable_meaning}
use Rattle.emptiness.proofs.inferable.is_inferable.Goals as goal

pub returns-clause-meaning : goal.returns-clause-meaning
returns-clause-meaning c = inferable_meaning c.args.tiling.now c.args.pattern.now c.passes.result c.passes.ensures.gridded c.passes.ensures.tested
