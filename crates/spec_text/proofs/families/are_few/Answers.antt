use Rattle.std.proofs.Common.{◌<◌, All, length, ap, subst, ◌∙◌}
use Rattle.std.proofs.lemmas.List.{take_all}
use Rattle.std.proofs.lemmas.List.Elements.{All-more}
use Rattle.sequences.specs.Bounds.{IsFew}
use Rattle.spec_text.proofs.families.are_few.Goals as goal

pub loop-trace-preserved : goal.loop-trace-preserved
loop-trace-preserved c =
    All-more (λ trace. IsFew trace) c.args.traces.now c.loop-trace.trace-index c.trace-item.result c.loop-trace-test.true c.loop-trace.invariant
    (subst (λ n. n < 268435456) (c.len.ensures ∙ ap length c.trace-item.is) c.if-len-ge-TOO_MANY.false)

pub returns : goal.returns
returns c = λ _. subst (λ traces. All (λ trace. IsFew trace) traces) (take_all c.loop-trace.trace-index c.args.traces.now c.loop-trace-test.false) c.loop-trace.invariant
