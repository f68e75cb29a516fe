use Rattle.spec_text.proofs.ReadSpecs.{file_is_read}
use Rattle.spec_text.proofs.law.file_texts_are_read.Goals as goal

pub returns : goal.returns
returns c = file_is_read
