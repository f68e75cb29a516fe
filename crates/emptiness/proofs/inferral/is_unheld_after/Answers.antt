use Rattle.std.proofs.Common.{sym, ◌∙◌}
use Rattle.emptiness.proofs.Witness.{ruled_out, one_more_member}
use Rattle.emptiness.proofs.inferral.is_unheld_after.Goals as goal

pub returns-then-is_held_by_one-clause-value : goal.returns-then-is_held_by_one-clause-value
returns-then-is_held_by_one-clause-value c =
    ruled_out c.args.tiling.now c.args.members.now.items c.args.pattern.now c.requires.known c.is_held_by_one.ensures.gridded
    (rw c.deref.ensures.value at (sym c.is_held_by_one.ensures.value ∙ c.if-is_held_by_one.true))

pub returns-clause-known : goal.returns-clause-known
returns-clause-known c =
    rw c.in_ok-push.ensures.items (one_more_member c.args.tiling.now c.args.members.now.items c.reaches.new.member c.requires.known c.len.ensures.gridded (c.reaches.ensures.told c.if-not-reaches.false))
