-- Child by child.
use Rattle.std.proofs.Common.{ℕ, Bool, ap, arith}
use Rattle.std.specs.Prelude.{map, slice_index}
use Rattle.css_prune.proofs.Children.{child_number}
use Rattle.css_prune.proofs.Extracting.{in_numbers}
use Rattle.css_prune.proofs.picked.places_of.Goals as goal

pub bounds-places-child : goal.bounds-places-child
bounds-places-child c =
    let children = c.args.children.now in
    let i = c.loop-child.child-index in
    let e = child_number children i in
    let w = c.requires.within (slice_index (map (λ (d : ℕ × Bool). d.0) children) i) (in_numbers children i c.loop-child-test.true) in
    omega (arith, e, w)

pub overflow_sub-places : goal.overflow_sub-places
overflow_sub-places c =
    let children = c.args.children.now in
    let i = c.loop-child.child-index in
    let e = ap (λ k. slice_index c.args.places.now k) (child_number children i) in
    let p = c.requires.placed (slice_index (map (λ (d : ℕ × Bool). d.0) children) i) (in_numbers children i c.loop-child-test.true) in
    omega (arith, e, p)
