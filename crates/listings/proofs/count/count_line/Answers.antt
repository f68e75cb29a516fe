use Rattle.std.proofs.Common.{arith}
use Rattle.listings.proofs.Drawing.{count_more}
use Rattle.listings.proofs.count.count_line.Goals as goal

pub loop-n-preserved : goal.loop-n-preserved
loop-n-preserved c = record {
  counted = count_more c.args.basis.now c.loop-n.n c.in_ok-count.count c.loop-n.out.items c.put_number.new.out.items c.loop-n.invariant.counted c.in_ok-put_number.ensures c.in_ok-count.ensures;
  within = omega (arith, c.loop-n-test.true);
}
