use Rattle.std.proofs.Common.{sym, arith}
use Rattle.gridded.proofs.CellSets.{has_answer, outside, set_of_bits}
use Rattle.gridded.proofs.cell_set.CellSet.contains.Goals as goal

pub returns-then-cell-gt7 : goal.returns-then-cell-gt7
returns-then-cell-gt7 c = sym (outside c.args.self c.args.cell (set_of_bits c.self.inside.bits c.args.self c.self.view_is) (λ k. omega (arith, k.0, c.if-cell-gt7.true)))

pub returns-then-cell-gt7-2 : goal.returns-then-cell-gt7-2
returns-then-cell-gt7-2 c = sym (outside c.args.self c.args.cell (set_of_bits c.self.inside.bits c.args.self c.self.view_is) (λ k. omega (arith, k.1, c.if-cell-gt7-2.true)))

pub returns : goal.returns
returns c =
    has_answer c.self.inside.bits c.args.self c.args.cell c.bit_of.result (omega (arith, c.if-cell-gt7.false), omega (arith, c.if-cell-gt7-2.false)) c.self.view_is c.bit_of.ensures
