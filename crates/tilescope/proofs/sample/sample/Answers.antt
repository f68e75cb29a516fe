use Rattle.tilescope.proofs.Searching.{made_sample, made_alone}
use Rattle.tilescope.proofs.sample.sample.Goals as goal

pub returns-clause-answer : goal.returns-clause-answer
returns-clause-answer c = made_sample c.args.request.now c.in_ok-text.text.items c.requires.command c.in_ok-text.ensures _ _ _ _ c.of.ensures

pub returns-clause-no_ledger : goal.returns-clause-no_ledger
returns-clause-no_ledger c = made_alone _ _ _ _ _ c.of.ensures
