use Rattle.spec_lines.proofs.FileLines.{one_file, writable_is_spelled}
use Rattle.spec_lines.proofs.FilesRead.{file_of_text}
use Rattle.spec_lines.proofs.laws.texts_are_files.Goals as goal

pub returns : goal.returns
returns c = record { one = one_file; file = file_of_text; written = writable_is_spelled }
