use Rattle.std.proofs.Common.{sym, ◌∙◌}
use Rattle.emptiness.proofs.Inferring.{inferable_answer}
use Rattle.emptiness.proofs.inferable.passes.Goals as goal

pub returns-clause-tested : goal.returns-clause-tested
returns-clause-tested c =
    inferable_answer c.args.tiling.now c.args.pattern.now c.is_unheld.result c.could_be_inferred.ensures.gridded (sym c.could_be_inferred.ensures.tested ∙ c.if-not-could_be_inferred.false) c.is_unheld.ensures
