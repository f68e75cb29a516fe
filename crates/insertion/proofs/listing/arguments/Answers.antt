use Rattle.std.proofs.Common.{◌≡◌, ℕ, ◌∙◌, subst, arith}
use Rattle.insertion.proofs.Listed.{insertions_below, columns_step, all_insertions}
use Rattle.insertion.proofs.listing.arguments.Goals as goal

pub loop-x-preserved : goal.loop-x-preserved
loop-x-preserved c = columns_step c.active-active.result c.required_cells-required.result c.args.tiling.now.height c.loop-x.x c.loop-x.kinds.items c.add_column.new.kinds.items c.loop-x.invariant (rw c.height.ensures.value at c.in_ok-add_column.ensures)

pub returns : goal.returns
returns c =
    let t = c.args.tiling.now in
    let kept = c.width-x-end.ensures.kept in
    let done : c.loop-x.x ≡ t.width = omega arith in
    subst (λ (n : ℕ). c.loop-x.kinds.items ≡ insertions_below c.active-active.result c.required_cells-required.result t.height n) done c.loop-x.invariant
    ∙ all_insertions t c.active-active.result c.required_cells-required.result kept.narrow kept.low c.active-active.ensures.value c.required_cells-required.ensures
