use Rattle.std.proofs.Common.{List, ℕ, ap, ◌∙◌}
use Rattle.listings.specs.Counts.{count_line}
use Rattle.tilescope.proofs.Searching.{made_count, made_alone}
use Rattle.tilescope.proofs.sample.count.Goals as goal

pub returns-clause-answer : goal.returns-clause-answer
returns-clause-answer c = made_count c.args.request.now c.in_ok-line.line.items c.requires.command (c.in_ok-line.ensures ∙ ap (λ (basis : List (List ℕ)). count_line basis c.args.request.now.terms) c.as_slice.ensures) _ _ _ _ c.of.ensures

pub returns-clause-no_ledger : goal.returns-clause-no_ledger
returns-clause-no_ledger c = made_alone _ _ _ _ _ c.of.ensures
