use Rattle.std.proofs.Common.{sym, ◌∙◌}
use Rattle.std.specs.Cmp.Lexicographic.{slice_cmp, lists_total}
use Rattle.gridded.specs.Orders.{cell_cmp}
use Rattle.gridded.specs.OrderLaws.{cell_total}
use Rattle.sequences.proofs.Adjacent.{one_more, all_ascend}
use Rattle.factoring.proofs.Shared.{before_is_less, out_of_order, ascending_sets}
use Rattle.factoring.proofs.sharing.ascend.Goals as goal

pub returns-then-not-starts_before : goal.returns-then-not-starts_before
returns-then-not-starts_before c =
    out_of_order c.args.sets.now c.loop-place.place _ _ c.loop-place.auto.place c.loop-place-test.true c.index-sets-place.is c.index-sets-place-in-loop-place.is (sym c.starts_before.ensures ∙ c.if-not-starts_before.true) c.requires.some c.requires.apart

pub loop-place-preserved : goal.loop-place-preserved
loop-place-preserved c =
    one_more (slice_cmp cell_cmp) c.args.sets.now c.loop-place.place _ _ c.loop-place.auto.place c.loop-place-test.true c.index-sets-place.is c.index-sets-place-in-loop-place.is
    (before_is_less c.index-sets-place.result c.index-sets-place-in-loop-place.result (sym c.starts_before.ensures ∙ c.if-not-starts_before.false)) c.loop-place.invariant

pub returns : goal.returns
returns c = ascending_sets c.args.sets.now (all_ascend (slice_cmp cell_cmp) (lists_total cell_total) c.args.sets.now c.loop-place.place c.loop-place-test.false c.loop-place.invariant)
