use Rattle.factoring.proofs.Shared.{too_many, one_set_more, all_counted, none_counted}
use Rattle.factoring.proofs.sharing.are_as_many.Goals as goal

pub loop-set-init : goal.loop-set-init
loop-set-init c = none_counted c.args.sets.now c.args.cells _ c.count-left.ensures.value

pub returns-then-count-left : goal.returns-then-count-left
returns-then-count-left c = too_many c.args.sets.now c.args.cells c.loop-set.set-index c.loop-set.left c.set-item.result _ c.loop-set-test.true c.set-item.is c.count-count.ensures.value c.if-count-left.true c.loop-set.invariant

pub loop-set-preserved : goal.loop-set-preserved
loop-set-preserved c = one_set_more c.args.sets.now c.args.cells c.loop-set.set-index c.loop-set.left c.set-item.result _ c.loop-set-test.true c.set-item.is c.count-count.ensures.value c.if-count-left.false c.loop-set.invariant

pub returns : goal.returns
returns c = all_counted c.args.sets.now c.args.cells c.loop-set.set-index c.loop-set.left c.loop-set-test.false c.loop-set.invariant
