use Rattle.std.proofs.Common.{sym, subst}
use Rattle.spec_lines.specs.Follows.Place.{AtEntry}
use Rattle.spec_reader.specs.Values.{IsReading}
use Rattle.spec_reader.proofs.Given.{entry_without}
use Rattle.spec_reader.proofs.reading.read_entry.Goals as goal

pub returns-in-Err : goal.returns-in-Err
returns-in-Err c = λ left. subst (IsReading (AtEntry c.args.number left) c.args.line.now) (sym c.without_value.ensures) (entry_without c.args.number left c.args.line.now c.in-Err.fault c.in-Err.ensures)
