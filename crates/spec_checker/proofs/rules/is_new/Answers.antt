use Rattle.spec_checker.proofs.Seen.{new_tells}
use Rattle.spec_checker.proofs.rules.is_new.Goals as goal

pub returns-clause-new : goal.returns-clause-new
returns-clause-new c = new_tells (λ t. t.now) c.args.tiling.now c.args.seen.now.keys c.in_ok-insert.field-0 c.in_ok-insert.ensures.added
