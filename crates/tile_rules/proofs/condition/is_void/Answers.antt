use Rattle.emptiness.proofs.NoMembers.{void_tested}
use Rattle.tile_rules.proofs.condition.is_void.Goals as goal

pub returns-in-Ok : goal.returns-in-Ok
returns-in-Ok c = void_tested c.members_within_weight.ensures c.args.tiling.now c.in-Ok.empty c.in-Ok.ensures.exact c.in-Ok.ensures.light
