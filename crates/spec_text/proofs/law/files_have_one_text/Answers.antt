use Rattle.spec_text.proofs.ReadSpecs.{one_text}
use Rattle.spec_text.proofs.law.files_have_one_text.Goals as goal

pub returns : goal.returns
returns c = one_text
