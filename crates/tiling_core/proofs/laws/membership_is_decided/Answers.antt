use Rattle.gridded.proofs.Holding.{holds_decides}
use Rattle.tiling_core.proofs.Deciding.{is_member_decides}
use Rattle.tiling_core.proofs.laws.membership_is_decided.Goals as goal

pub returns : goal.returns
returns c = record { holding = holds_decides; members = is_member_decides }
