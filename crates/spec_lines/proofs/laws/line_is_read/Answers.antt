use Rattle.spec_lines.proofs.LineSpelling.{line_takes, read_in_form, read_stands}
use Rattle.spec_lines.proofs.LinesAgain.{line_again}
use Rattle.spec_lines.proofs.laws.line_is_read.Goals as goal

pub returns : goal.returns
returns c = λ p t l. ((λ s. line_again p t l s.stands s.form s.text), (λ h. record { text = line_takes p t l h; form = read_in_form p t l h; stands = read_stands p t l h }))
