use Rattle.std.proofs.Common.{[], ◌∷◌, arith}
use Rattle.rule_kinds.specs.Choices.{is_bound}
use Rattle.separation.proofs.OnLines.{cell_in_line}
use Rattle.separation.proofs.Reaching.{next_round, closed_early, closed_late}
use Rattle.separation.proofs.bound.closure.Goals as goal

pub only-set-requires : goal.only-set-requires
only-set-requires c =
    let k = cell_in_line c.args.axis c.args.line c.args.whole c.args.cell c.requires.whole_of_line c.requires.among in
    record { left = k.0.0; low = k.0.1; on_line = k.1 }

pub loop-round-preserved : goal.loop-round-preserved
loop-round-preserved c = record {
  grown = next_round (is_bound c.args.axis c.args.tiling.now) c.args.whole (c.args.cell ∷ []) c.loop-round.set c.grown-larger.result c.loop-round._round c.loop-round.invariant.grown c.grown-larger.ensures.value;
  of_line = c.grown-larger.ensures.of_line;
}

pub returns-then-eq : goal.returns-then-eq
returns-then-eq c =
    let few = c.count-round-end.ensures.value in
    let within = c.loop-round-test.true in
    record { value = closed_early (is_bound c.args.axis c.args.tiling.now) c.args.whole c.loop-round.set c.grown-larger.result c.args.cell c.loop-round._round (omega arith) c.loop-round.invariant.grown c.grown-larger.ensures.value (c.eq.ensures.exact.0 c.if-eq.true) }

pub returns : goal.returns
returns c =
    let few = c.count-round-end.ensures.value in
    let past = c.loop-round-test.false in
    let most = c.loop-round.auto._round-end in
    record { value = closed_late (is_bound c.args.axis c.args.tiling.now) c.args.whole c.loop-round.set c.args.cell c.loop-round._round (omega arith) c.loop-round.invariant.grown }
