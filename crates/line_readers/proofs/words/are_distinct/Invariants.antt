use Rattle.std.proofs.Common.{◌≡◌, drop}
use Rattle.patterns.specs.Words.{has_no_repeats}
use Rattle.line_readers.proofs.words.are_distinct.Given as goal

abbrev pub invariant-loop-place : goal.invariant-loop-place
invariant-loop-place l = record { told : has_no_repeats (drop l.place l.letters) ≡ has_no_repeats l.letters }
