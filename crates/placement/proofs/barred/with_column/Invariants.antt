use Rattle.std.proofs.Common.{◌<◌, ℕ}
use Rattle.placement.specs.Thinning.{AreBeside}
use Rattle.placement.proofs.barred.with_column.Given as goal

abbrev pub invariant-loop-y : goal.invariant-loop-y
invariant-loop-y l = (w : ℕ) → l.middle.x < w → AreBeside w l.height l.middle l.fn.set → AreBeside w l.height l.middle l.cells
