use Rattle.std.proofs.Common.{◌≡◌, take, map, length}
use Rattle.patterns.specs.Ranks.{rank}
use Rattle.perm_core.proofs.standard.standardised.Given as goal

abbrev pub invariant-loop-place : goal.invariant-loop-place
invariant-loop-place l = record {
  ranked : take l.place l.letters ≡ map (rank l.digits) (take l.place l.digits);
  long : length l.letters ≡ 9;
}
