use Rattle.line_readers.specs.KindItems.{cut_read}
use Rattle.line_readers.proofs.KindAnswers.{row_fault}
use Rattle.line_readers.proofs.kinds.read_row_cut.Goals as goal

pub returns-in-Err : goal.returns-in-Err
returns-in-Err c = row_fault (cut_read c.args.items) c.in-Err.fault c.in-Err.ensures
