use Rattle.std.proofs.Common.{◌≡◌, ◌-◌, drop}
use Rattle.spec_lines.specs.Forms.{ascending}
use Rattle.line_readers.proofs.ascending.ascends.Given as goal

abbrev pub invariant-loop-place : goal.invariant-loop-place
invariant-loop-place g l = record { told : ascending g.T.Ord.cmp (drop (l.place - 1) l.items) ≡ ascending g.T.Ord.cmp l.items }
