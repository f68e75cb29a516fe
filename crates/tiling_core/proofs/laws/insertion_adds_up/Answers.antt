use Rattle.tiling_core.proofs.Ordered.{insertion_adds_up}
use Rattle.tiling_core.proofs.laws.insertion_adds_up.Goals as goal

pub returns : goal.returns
returns c = insertion_adds_up
