use Rattle.tiling_core.proofs.Kept.{IsTiling-in_order}
use Rattle.tiling_core.proofs.tiling.Tiling.in_grid.Goals as goal

pub invariant_of-result : goal.invariant_of-result
invariant_of-result c =
    IsTiling-in_order c.args.width c.args.height c.args.obstructions.items c.in_ok-obstructions.obstructions c.args.requirements.items c.in_ok-each_kept.field-0.items c.in_ok-requirements.requirements
    c.in_ok-obstructions.ensures.value c.in_ok-each_kept.ensures.value c.in_ok-requirements.ensures.value (rw c.deref.ensures.value at c.read_patterns.ensures) (rw c.deref-2.ensures.value at c.read_lists.ensures)
    c.requires.narrow c.requires.low c.requires.obstructions_in c.requires.requirements_in c.in_ok-obstructions.ensures.few c.in_ok-each_kept.ensures.few c.in_ok-requirements.ensures.few
