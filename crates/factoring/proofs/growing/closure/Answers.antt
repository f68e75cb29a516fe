use Rattle.std.proofs.Common.{◌+◌, ◌-◌, List, subst, sym, ◌∙◌, arith}
use Rattle.lists.specs.Members.{IsIn}
use Rattle.gridded.specs.declared.cell.Cell.{Cell}
use Rattle.tiling_core.specs.Patterns.{active_cells}
use Rattle.rule_kinds.specs.Choices.{closure, is_linked}
use Rattle.factoring.proofs.Numbers.{below_eight}
use Rattle.factoring.proofs.Rounds.{begun, round_done, settled, whole_settled, no_more}
use Rattle.factoring.proofs.growing.closure.Goals as goal

pub only-set-requires-clause-left : goal.only-set-requires-clause-left
only-set-requires-clause-left c = (below_eight c.args.active c.args.cell c.count-rounds.ensures.set (subst (λ (cells : List Cell). IsIn c.args.cell cells) (sym c.requires.active) c.requires.there)).0

pub only-set-requires-clause-low : goal.only-set-requires-clause-low
only-set-requires-clause-low c = (below_eight c.args.active c.args.cell c.count-rounds.ensures.set (subst (λ (cells : List Cell). IsIn c.args.cell cells) (sym c.requires.active) c.requires.there)).1

pub loop-init : goal.loop-init
loop-init c = begun (is_linked c.args.tiling.now) (active_cells c.args.tiling.now) c.args.cell c.args.active c.count-rounds.result c.only-set.result c.requires.active c.count-rounds.ensures.value c.only-set.ensures

pub returns-then-eq : goal.returns-then-eq
returns-then-eq c =
    whole_settled (is_linked c.args.tiling.now) (active_cells c.args.tiling.now) (c.count-rounds.result - c.loop.counter) c.loop.set c.args.active (closure (is_linked c.args.tiling.now) (active_cells c.args.tiling.now) c.args.cell) c.loop.invariant
    (c.eq.ensures.exact.0 c.if-eq.true) c.requires.active

pub returns-then-eq-2 : goal.returns-then-eq-2
returns-then-eq-2 c =
    let same = c.eq-in-loop.ensures.exact.0 c.if-eq-2.true in
    settled (is_linked c.args.tiling.now) (active_cells c.args.tiling.now) (c.count-rounds.result - c.loop.counter) c.loop.set (closure (is_linked c.args.tiling.now) (active_cells c.args.tiling.now) c.args.cell) c.loop.invariant (sym same ∙ c.grown-larger.ensures)

pub loop-preserved : goal.loop-preserved
loop-preserved c =
    round_done (is_linked c.args.tiling.now) (active_cells c.args.tiling.now) (c.count-rounds.result - c.loop.counter) (c.count-rounds.result - (c.loop.counter + 1)) c.loop.set c.grown-larger.result (closure (is_linked c.args.tiling.now) (active_cells c.args.tiling.now) c.args.cell)
    (omega (arith, c.loop-test.true)) c.loop.invariant c.grown-larger.ensures

pub returns : goal.returns
returns c =
    no_more (is_linked c.args.tiling.now) (active_cells c.args.tiling.now) (c.count-rounds.result - c.loop.counter) c.loop.set (closure (is_linked c.args.tiling.now) (active_cells c.args.tiling.now) c.args.cell) (omega (arith, c.loop-test.false)) c.loop.invariant
