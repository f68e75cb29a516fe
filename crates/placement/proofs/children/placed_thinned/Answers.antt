use Rattle.placement.proofs.Allowed.{allowed, few_at, one_more_thinned, all_thinned}
use Rattle.placement.proofs.Inside.{passes_at}
use Rattle.rule_kinds.specs.Lines.{in_grid}
use Rattle.placement.proofs.children.placed_thinned.Goals as goal

pub thinned_child-requires-clause-narrow : goal.thinned_child-requires-clause-narrow
thinned_child-requires-clause-narrow c = (allowed c.args.tiling.now c.args.pointed.now c.args.direction c.requires).narrow

pub thinned_child-requires-clause-low : goal.thinned_child-requires-clause-low
thinned_child-requires-clause-low c = (allowed c.args.tiling.now c.args.pointed.now c.args.direction c.requires).low

pub thinned_child-requires-clause-inside : goal.thinned_child-requires-clause-inside
thinned_child-requires-clause-inside c = (allowed c.args.tiling.now c.args.pointed.now c.args.direction c.requires).inside

pub thinned_child-requires-clause-at_inside : goal.thinned_child-requires-clause-at_inside
thinned_child-requires-clause-at_inside c =
    passes_at (λ q. in_grid c.args.tiling.now q.pattern) c.args.pointed.now c.loop-at.at-index c.at-item.result (allowed c.args.tiling.now c.args.pointed.now c.args.direction c.requires).inside c.loop-at-test.true c.at-item.is

pub thinned_child-requires-clause-few : goal.thinned_child-requires-clause-few
thinned_child-requires-clause-few c = few_at c.args.tiling.now c.args.pointed.now c.loop-at.at-index c.at-item.result (allowed c.args.tiling.now c.args.pointed.now c.args.direction c.requires).few c.loop-at-test.true c.at-item.is

pub loop-at-preserved : goal.loop-at-preserved
loop-at-preserved c =
    one_more_thinned c.args.tiling.now c.args.pointed.now c.args.direction c.loop-at.at-index c.at-item.result _ c.in_ok-thinned_child.field-0.0 c.in_ok-thinned_child.field-0.1 c.loop-at.children.items c.push-in-loop-at.new.self.items c.loop-at-test.true c.at-item.is c.loop-at.invariant
    c.in_ok-push-2.ensures.items c.in_ok-thinned_child.ensures.thinned c.in_ok-thinned_child.ensures.tiling

pub returns-clause-thinned : goal.returns-clause-thinned
returns-clause-thinned c = (all_thinned c.args.tiling.now c.args.pointed.now c.args.direction c.loop-at.at-index c.loop-at.children.items c.loop-at-test.false c.loop-at.invariant).thinned

pub returns-clause-tilings : goal.returns-clause-tilings
returns-clause-tilings c = (all_thinned c.args.tiling.now c.args.pointed.now c.args.direction c.loop-at.at-index c.loop-at.children.items c.loop-at-test.false c.loop-at.invariant).tilings
