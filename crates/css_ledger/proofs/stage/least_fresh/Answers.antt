-- Past the mark.
use Rattle.std.proofs.Common.{◌≡◌, Some, drop, ◌∙◌, ap, position, arith}
use Rattle.css_ledger.specs.Stages.{is_fresh}
use Rattle.css_ledger.proofs.Outs.{none_fresh_within, rest_whole, least_none, least_some, least_within}
use Rattle.css_ledger.proofs.stage.least_fresh.Goals as goal

pub slice_bounds-first_fresh-start : goal.slice_bounds-first_fresh-start
slice_bounds-first_fresh-start c = none_fresh_within c.args.low c.args.stages.now c.requires.mark

pub overflow_add-result : goal.overflow_add-result
overflow_add-result c =
    let some : Some c.in-Some.place ≡ position is_fresh (drop c.args.low c.args.stages.now) = c.in-Some.ensures ∙ ap (position is_fresh) (rest_whole c.args.low c.args.stages.now) in
    omega (arith, c.requires.few, least_within c.args.low c.args.stages.now c.in-Some.place c.requires.mark some)

pub returns-in-Some : goal.returns-in-Some
returns-in-Some c = least_some c.args.low c.args.stages.now c.in-Some.place c.requires.mark (c.in-Some.ensures ∙ ap (position is_fresh) (rest_whole c.args.low c.args.stages.now))

pub returns-in-None : goal.returns-in-None
returns-in-None c = least_none c.args.low c.args.stages.now c.requires.mark (c.in-None.ensures ∙ ap (position is_fresh) (rest_whole c.args.low c.args.stages.now))
