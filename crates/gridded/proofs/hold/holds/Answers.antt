use Rattle.std.proofs.Common.{false}
use Rattle.gridded.proofs.FreeBits.{none_held}
use Rattle.gridded.proofs.Searches.{answered}
use Rattle.gridded.proofs.hold.holds.Goals as goal

pub returns-then-free : goal.returns-then-free
returns-then-free c =
    let tested = none_held c.args.whole.now c.args.pattern.now (λ e. c.if-free.true (rw (c.free-free.ensures, c.free.ensures) e)) in
    record { tested = tested; meaning = answered false c.args.whole.now c.args.pattern.now tested }

pub returns-in-Some-clause-meaning : goal.returns-in-Some-clause-meaning
returns-in-Some-clause-meaning c = answered _ c.args.whole.now c.args.pattern.now c.in-Some.ensures

pub returns-clause-meaning : goal.returns-clause-meaning
returns-clause-meaning c = answered _ c.args.whole.now c.args.pattern.now c.is_found.ensures
