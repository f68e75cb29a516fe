use Rattle.std.proofs.Common.{ap, ◌∙◌}
use Rattle.tiling_core.specs.Patterns.{is_among}
use Rattle.tiling_core.proofs.Joined.{listed_answer}
use Rattle.tiling_core.proofs.tiling.Tiling.forbids.Goals as goal

pub returns-clause-meaning : goal.returns-clause-meaning
returns-clause-meaning c =
    listed_answer c.is_listed.result c.args.self.now.obstructions c.args.pattern.now (c.is_listed.ensures ∙ ap (λ patterns. is_among patterns c.args.pattern.now) c.obstructions.ensures.value)
