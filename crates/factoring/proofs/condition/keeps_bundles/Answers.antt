use Rattle.std.proofs.Common.{sym, ◌∙◌}
use Rattle.factoring.proofs.Bundles.{second_tells, first_tells}
use Rattle.factoring.proofs.condition.keeps_bundles.Goals as goal

pub returns-then-are_kept : goal.returns-then-are_kept
returns-then-are_kept c = second_tells c.args.sets.now c.args.tiling.now _ c.obstructions.ensures.value c.requirements.ensures.value (sym c.are_kept.ensures ∙ c.if-are_kept.true) c.lists_are_kept.ensures

pub returns-else-are_kept : goal.returns-else-are_kept
returns-else-are_kept c = c.if-are_kept.false ∙ first_tells c.args.sets.now c.args.tiling.now _ c.obstructions.ensures.value (sym c.are_kept.ensures ∙ c.if-are_kept.false)
