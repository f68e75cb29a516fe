use Rattle.placement.proofs.LeftOut.{none_beside}
use Rattle.placement.proofs.barred.barred.Goals as goal

pub returns : goal.returns
returns c =
    c.with_column.ensures c.args.width c.requires.column (c.with_row-row.ensures c.args.height c.requires.row (none_beside c.args.width c.args.height c.args.middle c.none.result c.none.ensures))
