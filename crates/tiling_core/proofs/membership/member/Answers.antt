use Rattle.std.proofs.Common.{sym, ◌∙◌}
use Rattle.tiling_core.proofs.Deciding.{is_member_decides}
use Rattle.tiling_core.proofs.membership.member.Goals as goal

pub returns-clause-decides : goal.returns-clause-decides
returns-clause-decides c =
    let decides = is_member_decides c.args.tiling.now c.args.g.now in
    ((λ e. decides.0 (sym c.passes.ensures ∙ e)), (λ h. c.passes.ensures ∙ decides.1 h))
