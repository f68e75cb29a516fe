use Rattle.std.proofs.Common.{◌<◌, length, subst, sym}
use Rattle.css_domain.specs.Ledgers.{classes}
use Rattle.css_store.proofs.MayFile.{claimed_within}
use Rattle.css_store.proofs.desk.claim_class.Goals as goal

pub class-requires-clause-number : goal.class-requires-clause-number
class-requires-clause-number g c = λ κs lives.
    subst (λ n. n < length (classes g.D.Domain.meaning c.claim.new.self)) (sym c.number.ensures)
    (claimed_within g.D.Domain.meaning c.args.ledger.now c.claim.new.self c.in-Work.pack.number c.in-Work.ensures.answer c.in-Work.ensures.after)
