use Rattle.std.proofs.Common.{ℕ, ◌<◌}
use Rattle.std.specs.Prelude.{slice_index}
use Rattle.gridded.specs.Refused.{row_at, Opposed}
use Rattle.gridded.proofs.fit.row_agrees.Given as goal

abbrev pub invariant-loop-earlier : goal.invariant-loop-earlier
invariant-loop-earlier l = (j : ℕ) → j < l.earlier → Opposed (slice_index l.letters j) (row_at l.cells j) (slice_index l.letters l.place) (row_at l.cells l.place) → ⊥
