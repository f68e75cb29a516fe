use Rattle.separation.proofs.First.{first_found}
use Rattle.separation.proofs.condition.comes_first.Goals as goal

pub returns : goal.returns
returns c = first_found c.args.axis c.args.tiling.now c.args.line c.args.whole c.args.set c.grown.result c.eq.result c.requires.whole c.requires.whole_of_line c.requires.of_line c.requires.part c.grown.ensures.value c.eq.ensures.value
