use Rattle.std.proofs.Common.{◌≡◌, ◌≤◌, length, refl, arith}
use Rattle.line_readers.proofs.SmallSets.{set_step, set_end}
use Rattle.line_readers.proofs.digit_set.set_of.Goals as goal

pub loop-cell-preserved : goal.loop-cell-preserved
loop-cell-preserved c = record { so_far = set_step c.args.cells.now c.loop-cell.cell-index _ (record { x = 0; y = 0 }) c.loop-cell.set c.with-set.result c.loop-cell.invariant.so_far c.with-set.ensures.value c.loop-cell-test.true refl }

pub returns : goal.returns
returns c = set_end c.args.cells.now c.loop-cell.set c.loop-cell.cell-index c.loop-cell.invariant.so_far c.loop-cell-test.false c.requires.set c.requires.small
