use Rattle.std.proofs.Common.{◌≡◌, ℕ, ◌∙◌, subst, arith}
use Rattle.factoring.proofs.Barred.{barred_below, columns_step, all_barred}
use Rattle.factoring.proofs.children.barred.Goals as goal

pub loop-x-preserved : goal.loop-x-preserved
loop-x-preserved c = columns_step c.args.set c.args.tiling.now.height c.loop-x.x c.loop-x.points.items c.add_column.new.points.items c.loop-x.invariant (rw c.height.ensures.value at c.in_ok-add_column.ensures)

pub returns : goal.returns
returns c =
    let t = c.args.tiling.now in
    let done : c.loop-x.x ≡ t.width = omega (arith, c.width-x-end.ensures.value) in
    subst (λ (n : ℕ). c.loop-x.points.items ≡ barred_below c.args.set t.height n) done c.loop-x.invariant ∙ all_barred c.args.set t
