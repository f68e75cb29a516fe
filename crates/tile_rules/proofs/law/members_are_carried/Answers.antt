use Rattle.tile_rules.specs.Laws.Carrying.{members_are_carried}
use Rattle.tile_rules.proofs.law.members_are_carried.Goals as goal

pub returns : goal.returns
returns c = members_are_carried (record {
  inserting = c.insertions_carry_members.ensures;
  inferring = c.inferrals_carry_members.ensures;
  voiding = c.voids_carry_members.ensures;
  placing = c.placements_carry_members.ensures;
  cutting = c.cuts_rename.ensures.carried;
})
