use Rattle.std.proofs.Common.{◌∙◌}
use Rattle.gridded.proofs.PartPlaces.{close_up_value, close_up_fits, close_up_answer}
use Rattle.gridded.proofs.part.Part.close_up.Goals as goal

pub from_consistent-requires : goal.from_consistent-requires
from_consistent-requires c =
    close_up_fits _ _ c.args.self.now (close_up_value c.self.inside.letters c.ranks-ranks.result c.self.inside.cells c.self.inside.len c.args.self.now c.self.invariant c.self.view_is c.ranks-ranks.ensures) c.requires

pub returns : goal.returns
returns c =
    c.from_consistent.ensures ∙ close_up_answer _ _ c.args.self.now (close_up_value c.self.inside.letters c.ranks-ranks.result c.self.inside.cells c.self.inside.len c.args.self.now c.self.invariant c.self.view_is c.ranks-ranks.ensures)
