use Rattle.placement.proofs.Allowed.{allowed, one_more_child, all_children}
use Rattle.placement.proofs.Inside.{passes_at}
use Rattle.rule_kinds.specs.Lines.{in_grid}
use Rattle.placement.proofs.children.placed.Goals as goal

pub child-requires-clause-narrow : goal.child-requires-clause-narrow
child-requires-clause-narrow c = (allowed c.args.tiling.now c.args.pointed.now c.args.direction c.requires).narrow

pub child-requires-clause-low : goal.child-requires-clause-low
child-requires-clause-low c = (allowed c.args.tiling.now c.args.pointed.now c.args.direction c.requires).low

pub child-requires-clause-inside : goal.child-requires-clause-inside
child-requires-clause-inside c = (allowed c.args.tiling.now c.args.pointed.now c.args.direction c.requires).inside

pub child-requires-clause-at_inside : goal.child-requires-clause-at_inside
child-requires-clause-at_inside c =
    passes_at (λ q. in_grid c.args.tiling.now q.pattern) c.args.pointed.now c.loop-at.at-index c.at-item.result (allowed c.args.tiling.now c.args.pointed.now c.args.direction c.requires).inside c.loop-at-test.true c.at-item.is

pub loop-at-preserved : goal.loop-at-preserved
loop-at-preserved c =
    one_more_child c.args.tiling.now c.args.pointed.now c.args.direction c.loop-at.at-index c.at-item.result _ c.in_ok-child.field-0 c.loop-at.children.items c.push-in-loop-at.new.self.items c.loop-at-test.true c.at-item.is c.loop-at.invariant c.in_ok-push-2.ensures.items c.in_ok-child.ensures

pub returns : goal.returns
returns c = all_children c.args.tiling.now c.args.pointed.now c.args.direction c.loop-at.at-index c.loop-at.children.items c.loop-at-test.false c.loop-at.invariant
