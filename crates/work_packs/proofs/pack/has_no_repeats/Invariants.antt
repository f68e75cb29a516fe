use Rattle.std.proofs.Common.{◌≡◌, drop}
use Rattle.patterns.specs.Words.{has_no_repeats}
use Rattle.work_packs.proofs.pack.has_no_repeats.Given as goal

abbrev pub invariant-loop-place : goal.invariant-loop-place
invariant-loop-place l = has_no_repeats (drop l.place l.bytes) ≡ has_no_repeats l.bytes
