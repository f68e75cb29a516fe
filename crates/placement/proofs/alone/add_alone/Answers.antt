use Rattle.std.proofs.Common.{arith}
use Rattle.placement.proofs.Beside.{columns_step, all_alone}
use Rattle.placement.proofs.alone.add_alone.Goals as goal

pub loop-x-preserved : goal.loop-x-preserved
loop-x-preserved c = columns_step c.args.middle c.args.height c.loop-x.x c.push-2.new.self.items c.loop-x.found.items c.add_beside_in.new.found.items c.loop-x.invariant c.in_ok-add_beside_in.ensures

pub returns : goal.returns
returns c =
    all_alone c.args.middle c.args.width c.args.height c.loop-x.x c.args.found.now.items c.push.new.self.items c.push-2.new.self.items c.loop-x.found.items c.rising.result c.falling.result (omega arith) c.in_ok-push.ensures.items c.rising.ensures c.in_ok-push-2.ensures.items c.falling.ensures c.loop-x.invariant
