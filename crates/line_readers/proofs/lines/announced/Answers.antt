use Rattle.line_readers.proofs.Arities.{announced_by}
use Rattle.line_readers.proofs.lines.announced.Goals as goal

pub returns : goal.returns
returns c = announced_by c.args.line.now c.counted.result c.counted.ensures
