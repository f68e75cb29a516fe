use Rattle.tile_rules.specs.Laws.RuleCounts.{rules_count}
use Rattle.tile_rules.proofs.law.rules_count.Goals as goal

pub returns : goal.returns
returns c =
    rules_count c.single_tilings.ensures.unit c.single_tilings.ensures.point c.members_within_weight.ensures c.counts_add_up.ensures.sum c.replays_keep_members.ensures.members c.members_are_carried.ensures c.factor_rules_count.ensures
