use Rattle.std.proofs.Common.{◌<◌, ℕ, Bool, arith}
use Rattle.std.specs.Prelude.{map, slice_index}
use Rattle.css_prune.proofs.Children.{child_number}
use Rattle.css_prune.proofs.tests.are_below.Goals as goal
use Rattle.lists.proofs.Numbers.{up_to_next}

pub loop-child-preserved : goal.loop-child-preserved
loop-child-preserved c =
    let e = child_number c.args.children.now c.loop-child.child-index in
    up_to_next (λ s. slice_index (map (λ (x : ℕ × Bool). x.0) c.args.children.now) s < c.args.classes) c.loop-child.child-index c.loop-child.invariant (omega (arith, e, c.if-child-classes.false))
