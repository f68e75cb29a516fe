use Rattle.std.proofs.Common.{◌<◌, ℕ}
use Rattle.placement.specs.Thinning.{AreBeside}
use Rattle.placement.proofs.barred.with_row.Given as goal

abbrev pub invariant-loop-x : goal.invariant-loop-x
invariant-loop-x l = (h : ℕ) → l.middle.y < h → AreBeside l.width h l.middle l.fn.set → AreBeside l.width h l.middle l.cells
