use Rattle.work_packs.proofs.Placements.{one_more_added}
use Rattle.work_packs.proofs.once.add_new.Goals as goal

pub loop-kind-preserved : goal.loop-kind-preserved
loop-kind-preserved c = one_more_added c.args.kinds.now.items c.loop-kind.yielded c.loop-kind.kinds.items c.add_one.new.kinds.items c.in-Some.kind c.loop-kind.invariant c.in_ok-add_one.ensures
