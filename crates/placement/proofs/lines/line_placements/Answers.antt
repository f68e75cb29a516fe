use Rattle.std.proofs.Common.{◌∙◌}
use Rattle.rule_kinds.specs.Kinds.{axis_of}
use Rattle.placement.proofs.Tried.{points_are, lines_step}
use Rattle.placement.proofs.lines.line_placements.Goals as goal

pub loop-line-preserved : goal.loop-line-preserved
loop-line-preserved c =
    let points = points_are c.args.tiling.now c.axis_of-axis.result (axis_of c.args.first) c.loop-line.line c.deref.result.now c.in_ok-cells.cells.items c.active.result c.in_ok-points.points.items c.axis_of-axis.ensures c.deref.ensures.value c.in_ok-cells.ensures c.active.ensures.value c.in_ok-points.ensures in
    lines_step c.args.tiling.now (axis_of c.args.first) c.args.first c.args.second c.loop-line.line c.deref-in-loop-line.result.now c.loop-line.kinds.items c.add_both.new.kinds.items (c.deref-in-loop-line.ensures.value ∙ points) c.loop-line.invariant c.in_ok-add_both.ensures
