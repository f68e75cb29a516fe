use Rattle.std.proofs.Common.{arith, sym, ◌∙◌, ◌≡◌, Ok}
use Rattle.command_words.proofs.Numbers.{parsed, no_other_text}
use Rattle.command_words.proofs.values.number_in.Goals as goal

pub returns-in_default-clause-none : goal.returns-in_default-clause-none
returns-in_default-clause-none c _ n h = c.in_default.not-Ok n (parsed n c.args.most c.args.text.now c.parse.result c.parse.ensures.value.0 h.to c.ranges.most.fits h.spelled)

pub returns-then-number-least-clause-none : goal.returns-then-number-least-clause-none
returns-then-number-least-clause-none c _ n h =
    let same : Ok c.in-Ok.number ≡ Ok n = sym c.in-Ok.is ∙ parsed n c.args.most c.args.text.now c.parse.result c.parse.ensures.value.0 h.to c.ranges.most.fits h.spelled in
    let number : c.in-Ok.number ≡ n = cc in
    let from = h.from in
    omega arith

pub returns-then-number-most-clause-none : goal.returns-then-number-most-clause-none
returns-then-number-most-clause-none c _ n h =
    let same : Ok c.in-Ok.number ≡ Ok n = sym c.in-Ok.is ∙ parsed n c.args.most c.args.text.now c.parse.result c.parse.ensures.value.0 h.to c.ranges.most.fits h.spelled in
    let number : c.in-Ok.number ≡ n = cc in
    let to = h.to in
    omega arith

pub returns-then-ne-clause-none : goal.returns-then-ne-clause-none
returns-then-ne-clause-none c _ n h =
    let same : Ok c.in-Ok.number ≡ Ok n = sym c.in-Ok.is ∙ parsed n c.args.most c.args.text.now c.parse.result c.parse.ensures.value.0 h.to c.ranges.most.fits h.spelled in
    let number : c.in-Ok.number ≡ n = cc in
    no_other_text c.ne.result c.in-Ok.number n c.format.result.now c.args.text.now c.if-ne.true c.ne.ensures c.format.ensures.text number h.spelled
