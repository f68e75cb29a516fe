use Rattle.std.proofs.Common.{◌∷◌, [], ◌∙◌, take}
use Rattle.placement.proofs.Leaving.{more_stay, more_leave, patterns_more}
use Rattle.placement.proofs.staying.add_those_that_stay.Goals as goal

pub loop-pattern-preserved : goal.loop-pattern-preserved
loop-pattern-preserved c =
    let index = c.loop-pattern.pattern-index in
    let patterns = c.args.patterns.now in
    let more = patterns_more patterns index c.pattern-item.result c.loop-pattern-test.true c.pattern-item.is in (
      more_stay c.args.barred (take index patterns) (c.pattern-item.result ∷ []) _ c.args.found.now.items c.loop-pattern.found.items c.add_if_it_stays.new.found.items more c.loop-pattern.invariant.0 c.in_ok-more.ensures.added,
      c.either-left_out.ensures ∙ more_leave c.args.barred (take index patterns) (c.pattern-item.result ∷ []) _ c.loop-pattern.left_out c.in_ok-more.more more c.loop-pattern.invariant.1 c.in_ok-more.ensures.told,
    )
