use Rattle.line_readers.specs.KindItems.{cut_read}
use Rattle.line_readers.proofs.KindAnswers.{column_fault}
use Rattle.line_readers.proofs.kinds.read_column_cut.Goals as goal

pub returns-in-Err : goal.returns-in-Err
returns-in-Err c = column_fault (cut_read c.args.items) c.in-Err.fault c.in-Err.ensures
