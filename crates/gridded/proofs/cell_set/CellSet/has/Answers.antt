use Rattle.gridded.proofs.CellSets.{has_answer, has_means}
use Rattle.gridded.proofs.cell_set.CellSet.has.Goals as goal

pub returns : goal.returns
returns c =
    let tested = has_answer c.self.inside.bits c.args.self c.args.cell c.bit_of.result (c.requires.left, c.requires.low) c.self.view_is c.bit_of.ensures in
    record { tested = tested; meaning = has_means c.args.self c.args.cell _ tested }
