use Rattle.std.proofs.Common.{◌≡◌, true}
use Rattle.std.proofs.Common.{rules}
use Rattle.css_domain.specs.Ledgers.{is_among}
use Rattle.css_store.proofs.MayFile.{class_out}
use Rattle.css_store.proofs.desk.may_file_here.Goals as goal

pub class-requires-clause-number : goal.class-requires-clause-number
class-requires-clause-number g c = λ κs lives.
    let laws = g.met.D.Domain g.world.𝓛 g.world.𝓜 g.world.𝓡 ((λ s x. x), (λ x. x), (λ x. x), λ x. x) in
    let out : is_among c.args.number c.args.ledger.now.out ≡ true = search rules in
    class_out g.D.Domain.meaning g.D.Class.PartialEq.eq laws.same laws.exact c.args.ledger.now c.is_out.ensures.ledger c.args.number out
