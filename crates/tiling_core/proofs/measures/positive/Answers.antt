use Rattle.std.proofs.Common.{sym, ◌∙◌}
use Rattle.tiling_core.proofs.Deciding.{is_positive_decides}
use Rattle.tiling_core.proofs.measures.positive.Goals as goal

pub returns-clause-decides : goal.returns-clause-decides
returns-clause-decides c =
    let decides = is_positive_decides c.args.tiling.now in
    let tested = rw c.requirements.ensures.value at c.some_lacks_empty.ensures in
    ((λ e. decides.0 (sym tested ∙ e)), (λ h. tested ∙ decides.1 h))
