use Rattle.gridded.proofs.PartPlaces.{push_answer}
use Rattle.gridded.proofs.part.Part.push.Goals as goal

pub returns : goal.returns
returns c = push_answer c.self.inside.letters c.self.inside.cells c.self.inside.len c.args.letter c.args.cell c.args.self.now c.self.invariant c.self.view_is c.requires
