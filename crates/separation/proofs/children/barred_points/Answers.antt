use Rattle.std.proofs.Common.{◌∙◌, ap, arith}
use Rattle.std.specs.Prelude.{map}
use Rattle.gridded.specs.CellSets.{is_among as has_cell}
use Rattle.gridded.specs.Small.{point_at}
use Rattle.rule_kinds.specs.Children.{barred_half}
use Rattle.separation.proofs.Halves.{mapped_more, mapped_whole}
use Rattle.separation.proofs.children.barred_points.Goals as goal

pub loop-place-preserved : goal.loop-place-preserved
loop-place-preserved c =
    mapped_more (λ d. point_at (barred_half c.args.axis c.args.set d)) c.args.axis c.args.line c.loop-place.place (has_cell c.active_on-whole.result) c.cell_on.result c.loop-place.points.items c.add_barred.new.points.items
    c.cell_on.ensures.value c.loop-place.invariant c.in_ok-add_barred.ensures

pub returns : goal.returns
returns c =
    let past = c.loop-place-test.false in
    let most = c.loop-place.auto.place-end in
    mapped_whole (λ d. point_at (barred_half c.args.axis c.args.set d)) c.args.axis c.args.line c.loop-place.place c.active_on-whole.result c.loop-place.points.items c.requires (omega arith) c.active_on-whole.ensures.of_line c.loop-place.invariant
    ∙ ap (map (λ d. point_at (barred_half c.args.axis c.args.set d))) c.active_on-whole.ensures.value
