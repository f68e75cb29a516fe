use Rattle.std.proofs.Common.{[]}
use Rattle.spec_checker.proofs.checking.read_and_judge.Goals as goal

pub returns : goal.returns
returns c = c.finish.ensures c.args.basis.now c.args.bytes.now (c.in_ok-feed.ensures.read c.args.basis.now [] c.in_ok-checking.ensures.read)
