use Rattle.std.proofs.Common.{◌≡◌, ◌<◌, ◌≤◌, ℕ, false}
use Rattle.std.specs.List.{slice_range}
use Rattle.perm_core.specs.Basis.{word_before, is_wrong_at}
use Rattle.perm_core.specs.Flaws.{wrong_by}
use Rattle.perm_core.proofs.flaw.first_flaw.Given as goal

abbrev pub invariant-loop-place : goal.invariant-loop-place
invariant-loop-place l = record {
  begun : l.start ≤ l.place;
  read : slice_range l.text l.start l.place ≡ word_before l.text l.place;
  right : (k : ℕ) → k < l.place → is_wrong_at (wrong_by l.flaw) l.text k ≡ false;
}
