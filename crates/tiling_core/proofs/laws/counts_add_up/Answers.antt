use Rattle.tiling_core.proofs.Counted.{counts_add_up, renaming_keeps_counts}
use Rattle.tiling_core.proofs.laws.counts_add_up.Goals as goal

pub returns : goal.returns
returns c = record { sum = counts_add_up; renaming = renaming_keeps_counts }
