use Rattle.tiling_core.proofs.Minimal.{minimal_keeps_members, minimal_keeps_counts}
use Rattle.tiling_core.proofs.laws.minimal_obstructions_suffice.Goals as goal

pub returns : goal.returns
returns c = record { members = minimal_keeps_members; counts = minimal_keeps_counts }
