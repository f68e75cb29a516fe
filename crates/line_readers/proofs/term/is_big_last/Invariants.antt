use Rattle.std.proofs.Common.{◌≡◌, ◌-◌, drop}
use Rattle.line_readers.specs.Terms.{is_big_last}
use Rattle.line_readers.proofs.term.is_big_last.Given as goal

abbrev pub invariant-loop-place : goal.invariant-loop-place
invariant-loop-place l = record { told : is_big_last (drop (l.place - 1) l.terms) ≡ is_big_last l.terms }
