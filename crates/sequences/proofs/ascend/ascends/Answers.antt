use Rattle.std.proofs.Common.{sym, ◌∙◌}
use Rattle.sequences.proofs.Adjacent.{one_more, all_ascend}
use Rattle.sequences.proofs.ascend.ascends.Goals as goal

pub loop-place-preserved : goal.loop-place-preserved
loop-place-preserved g c =
    one_more g.T.Ord.cmp c.args.items.now c.loop-place.place c.index-items-place.result c.index-items-place-in-loop-place.result c.loop-place.auto.place c.loop-place-test.true c.index-items-place.is c.index-items-place-in-loop-place.is (sym c.cmp.ensures ∙ c.in-Less.is) c.loop-place.invariant

pub returns : goal.returns
returns g c = λ _. all_ascend g.T.Ord.cmp g.met.T.Ord.total c.args.items.now c.loop-place.place c.loop-place-test.false c.loop-place.invariant
