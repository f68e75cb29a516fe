use Rattle.std.proofs.Common.{sym, ◌∙◌}
use Rattle.tiling_core.specs.Same.{tiles_eq_decides}
use Rattle.tiling_core.proofs.tiling.TilingPartialEq.eq.Goals as goal

pub returns-clause-exact : goal.returns-clause-exact
returns-clause-exact c =
    let decides = tiles_eq_decides c.args.self.now c.args.other.now in
    ((λ e. decides.0 (sym c.has_fields_of.ensures ∙ e)), (λ h. c.has_fields_of.ensures ∙ decides.1 h))
