use Rattle.spec_checker.proofs.Differences.{AgreeBefore}
use Rattle.spec_checker.proofs.counts.first_difference.Given as goal

abbrev pub invariant-loop-place : goal.invariant-loop-place
invariant-loop-place l = AgreeBefore l.items l.others l.place
