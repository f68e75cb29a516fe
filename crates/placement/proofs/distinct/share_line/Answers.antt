use Rattle.placement.proofs.Lined.{one_line}
use Rattle.placement.proofs.distinct.share_line.Goals as goal

pub returns-in-Some : goal.returns-in-Some
returns-in-Some c = one_line c.args.axis c.in-Some.first.now c.in-Some.rest.now c.args.pointed.now c.pointed_cell.result c.line.result c.point_into_line.result c.in-Some.ensures.cases.0 c.pointed_cell.ensures.value c.line.ensures c.point_into_line.ensures
