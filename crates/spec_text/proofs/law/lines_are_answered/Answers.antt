use Rattle.spec_text.proofs.LineAnswers.{one_value, answered, answered_back, entry_answered, entry_answered_back}
use Rattle.spec_text.proofs.law.lines_are_answered.Goals as goal

pub returns : goal.returns
returns g c = record {
  one = one_value;
  lines = λ p t line_of result. (answered p t line_of result, answered_back p t line_of result);
  entries = λ number t result. (entry_answered number t result, entry_answered_back number t result);
}
