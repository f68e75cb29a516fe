use Rattle.std.proofs.Common.{length, refl, arith}
use Rattle.spec_checker.proofs.Differences.{agree_more, differ_here, differ_past, same_lists}
use Rattle.spec_checker.proofs.counts.first_difference.Goals as goal

pub returns-then-not-has_term-clause-some : goal.returns-then-not-has_term-clause-some
returns-then-not-has_term-clause-some c = differ_here c.args.items.now c.args.others.now c.loop-place.place _ c.has_term.result c.loop-place-test.true c.if-not-has_term.true c.has_term.ensures.1 c.loop-place.invariant

pub loop-place-preserved : goal.loop-place-preserved
loop-place-preserved c = agree_more c.args.items.now c.args.others.now c.loop-place.place _ c.has_term.result c.loop-place-test.true c.if-not-has_term.false c.has_term.ensures.0 c.loop-place.invariant

pub returns-then-others-items-clause-some : goal.returns-then-others-items-clause-some
returns-then-others-items-clause-some c = differ_past c.args.items.now c.args.others.now (length c.args.items.now) refl c.if-others-items.true (λ m l. c.loop-place.invariant m (omega (arith, l, c.loop-place-test.false)))

pub returns-clause-none : goal.returns-clause-none
returns-clause-none c = same_lists c.args.items.now c.args.others.now (omega (arith, c.if-others-items.false)) (λ m l. c.loop-place.invariant m (omega (arith, l, c.loop-place-test.false)))
