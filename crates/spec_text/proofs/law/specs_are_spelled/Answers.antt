use Rattle.spec_text.proofs.FileTexts.{spec_is_file, writable_spec}
use Rattle.spec_text.proofs.WrittenSpecs.{kept_spec}
use Rattle.spec_text.proofs.law.specs_are_spelled.Goals as goal

pub returns : goal.returns
returns c = record { text = spec_is_file; spelled = writable_spec; kept = kept_spec }
