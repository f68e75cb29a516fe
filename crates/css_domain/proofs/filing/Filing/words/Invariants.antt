use Rattle.std.proofs.Common.{◌≡◌, ◌≤◌, ◌*◌, take}
use Rattle.css_domain.specs.LedgerFacts.{filing_words}
use Rattle.css_domain.proofs.filing.Filing.words.Given as goal

abbrev pub invariant-loop-rule : goal.invariant-loop-rule
invariant-loop-rule g l = (l.words ≡ filing_words g.D.Domain.meaning (take l.rule-index l.self)) × (l.words ≤ 4294967297 * l.rule-index)
