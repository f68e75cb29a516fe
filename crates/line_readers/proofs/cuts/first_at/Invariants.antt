use Rattle.line_readers.specs.Cuts.{IsNowhere}
use Rattle.line_readers.proofs.cuts.first_at.Given as goal

abbrev pub invariant-loop-place : goal.invariant-loop-place
invariant-loop-place l = record { nowhere : IsNowhere l.byte l.text l.place }
