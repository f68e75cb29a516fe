use Rattle.std.specs.Prelude.{◌≡◌, true}
use Rattle.std.proofs.Common.{sym, ◌∙◌, rules}
use Rattle.patterns.specs.Occurs.{contains}
use Rattle.patterns.proofs.Occurrences.{occurs_decides}
use Rattle.perm_core.proofs.contain.contains.Goals as goal

pub returns-clause-relation : goal.returns-clause-relation
returns-clause-relation c =
    let decided = occurs_decides (λ l. l) (λ _ _. true) c.args.whole.now c.args.pattern.now in
    let same : c.word_contains.result ≡ contains c.args.whole.now c.args.pattern.now = search rules in
    ((λ e. decided.0 (sym same ∙ e)), (λ h. same ∙ decided.1 h))
