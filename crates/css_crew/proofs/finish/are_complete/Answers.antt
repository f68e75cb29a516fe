-- Each filing is complete where the one at each place is.
use Rattle.std.proofs.Common.{arith, ap}
use Rattle.css_domain.specs.Ledgers.{Counts}
use Rattle.css_crew.proofs.Completes.{each_complete}
use Rattle.css_crew.proofs.finish.are_complete.Goals as goal

pub returns : goal.returns
returns g c = λ _.
    let many = ap (λ (n : Counts). n.expanded) c.counts-place-end.ensures.answer in
    each_complete g.D.Domain.meaning c.args.ledger.now c.counts-place-end.ensures.ledger (λ p h. c.loop-place.invariant p (omega (arith, h, many, c.loop-place-test.false)))
