use Rattle.std.proofs.Common.{sym, ◌∙◌}
use Rattle.gridded.specs.CellSetOrder.{set_eq_decides}
use Rattle.gridded.proofs.CellSets.{same_bits}
use Rattle.gridded.proofs.cell_set.CellSetPartialEq.eq.Goals as goal

pub returns : goal.returns
returns c =
    let value = same_bits c.self.inside.bits c.other.inside.bits c.args.self.now c.args.other.now c.self.invariant c.other.invariant c.self.view_is c.other.view_is in
    let decides = set_eq_decides c.args.self.now c.args.other.now in
    record { value = value; exact = ((λ t. decides.0 (sym value ∙ t)), (λ e. value ∙ decides.1 e)) }
