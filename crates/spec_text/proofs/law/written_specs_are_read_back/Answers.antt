use Rattle.spec_text.proofs.ReadSpecs.{written_is_answered}
use Rattle.spec_text.proofs.law.written_specs_are_read_back.Goals as goal

pub returns : goal.returns
returns c = written_is_answered
