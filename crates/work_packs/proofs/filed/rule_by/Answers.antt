use Rattle.std.proofs.Common.{refl}
use Rattle.work_packs.proofs.RuleSteps.{lists_kept, rule_made}
use Rattle.work_packs.proofs.filed.rule_by.Goals as goal

pub of-requires : goal.of-requires
of-requires c =
    rw (c.in_ok-parent.ensures, c.of-children.ensures, c.of-traces.ensures)
    (lists_kept c.args.tiling.now c.args.kind c.in_ok-children.children.items _ c.in_ok-children.traces.items c.requires refl c.in_ok-children.ensures)

pub returns : goal.returns
returns c = rule_made c.args.tiling.now c.args.kind c.in_ok-children.children.items _ c.in_ok-children.traces.items c.of.result c.width.ensures.kept c.read_kind.ensures c.requires.applies refl c.in_ok-children.ensures (rw (c.in_ok-parent.ensures, c.of-children.ensures, c.of-traces.ensures) at c.of.ensures)
