use Rattle.std.proofs.Common.{Ok, Err, rules}
use Rattle.tilescope.proofs.Streaming.{took_whole, found_whole}
use Rattle.tilescope.proofs.stream.check_source.Goals as goal

pub returns-in-Ok-finish-clause-answer : goal.returns-in-Ok-finish-clause-answer
returns-in-Ok-finish-clause-answer g c = found_whole c.args.basis.now c.args.limit _ _ _ _ (Ok c.in-Ok-finish.found) c.in-Ok-feed_all.ensures.whole c.in-Ok.ensures.read c.in-Ok-finish.ensures

pub returns-in-Err-Memory-clause-answer : goal.returns-in-Err-Memory-clause-answer
returns-in-Err-Memory-clause-answer g c = took_whole _ _ c.in-Ok-feed_all.ensures.whole.bytes _ c.in-Ok-feed_all.ensures.whole.whole c.in-Ok-feed_all.ensures.whole.few

pub returns-in-Err-finish-clause-answer : goal.returns-in-Err-finish-clause-answer
returns-in-Err-finish-clause-answer g c =
    (search rules, found_whole c.args.basis.now c.args.limit _ _ _ _ (Err c.in-Err-finish.fault) c.in-Ok-feed_all.ensures.whole c.in-Ok.ensures.read c.in-Err-finish.ensures)
