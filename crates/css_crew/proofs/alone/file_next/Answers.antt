-- The least fresh class is the next in turn.
use Rattle.css_crew.proofs.Onward.{in_turn}
use Rattle.css_crew.proofs.alone.file_next.Goals as goal

pub returns-clause-goes : goal.returns-clause-goes
returns-clause-goes g c = in_turn g.D.Domain.meaning c.args.ledger.now c.file_fresh.new.ledger c.requires.out c.requires.turn c.file_fresh.result c.file_fresh.ensures.goes
