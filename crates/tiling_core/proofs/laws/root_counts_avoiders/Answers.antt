use Rattle.tiling_core.proofs.Roots.{root_counts_avoiders}
use Rattle.tiling_core.proofs.laws.root_counts_avoiders.Goals as goal

pub returns : goal.returns
returns c = root_counts_avoiders
