use Rattle.std.proofs.Common.{◌∙◌}
use Rattle.gridded.proofs.Points.{points-of_fields}
use Rattle.gridded.proofs.Searches.{starting}
use Rattle.gridded.proofs.hold.is_found.Goals as goal

pub returns : goal.returns
returns c =
    c.extends.ensures
    ∙ rw (c.letters.ensures.value, c.cells.ensures.value, c.letters-2.ensures.value, c.cells-2.ensures.value, points-of_fields c.args.whole.now, points-of_fields c.args.pattern.now) (starting c.args.whole.now c.args.pattern.now)
