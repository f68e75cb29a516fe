use Rattle.std.proofs.Common.{refl, sym, subst}
use Rattle.spec_lines.specs.Follows.Place.{AtChild}
use Rattle.spec_reader.specs.Values.{IsReading}
use Rattle.spec_reader.proofs.Given.{plainly}
use Rattle.spec_reader.proofs.reading.read_child.Goals as goal

pub returns-in-Err : goal.returns-in-Err
returns-in-Err c = λ i left more. subst (IsReading (AtChild i left more) c.args.line.now) (sym c.without_value.ensures) (plainly (AtChild i left more) c.args.line.now c.in-Err.fault refl c.in-Err.ensures)
