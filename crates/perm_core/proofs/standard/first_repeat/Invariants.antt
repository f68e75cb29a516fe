use Rattle.std.proofs.Common.{ℕ, ◌<◌}
use Rattle.perm_core.specs.Perms.{IsNewAt}
use Rattle.perm_core.proofs.standard.first_repeat.Given as goal

abbrev pub invariant-loop-place : goal.invariant-loop-place
invariant-loop-place l = (k : ℕ) → k < l.place → IsNewAt l.digits k
