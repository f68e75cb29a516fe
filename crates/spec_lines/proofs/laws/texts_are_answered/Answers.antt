use Rattle.spec_lines.proofs.Bodies.{one_reading}
use Rattle.spec_lines.proofs.Faulty.{spelled_is_answered, grammar_is_answered, limit_is_answered}
use Rattle.spec_lines.proofs.laws.texts_are_answered.Goals as goal

pub returns : goal.returns
returns c = record { one = one_reading; spelled = spelled_is_answered; grammar = grammar_is_answered; limit = limit_is_answered }
