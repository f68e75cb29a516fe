use Rattle.std.proofs.Common.{sym, ◌∙◌}
use Rattle.tiling_core.proofs.Deciding.{one_held_decides}
use Rattle.tiling_core.proofs.membership.holds_one.Goals as goal

pub returns-clause-meaning : goal.returns-clause-meaning
returns-clause-meaning c =
    let decides = one_held_decides c.args.g.now c.args.patterns.now in
    ((λ e. decides.0 (sym c.any_held.ensures ∙ e)), (λ h. c.any_held.ensures ∙ decides.1 h))
