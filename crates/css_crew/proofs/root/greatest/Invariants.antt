use Rattle.std.proofs.Common.{◌≤◌, ◌<◌, ℕ}
use Rattle.std.specs.Prelude.{slice_index}
use Rattle.css_domain.specs.Records.{numbers}
use Rattle.css_crew.proofs.root.greatest.Given as goal

abbrev pub invariant-loop-child : goal.invariant-loop-child
invariant-loop-child l = record { least : l.least ≤ l.most; own : l.item.parent ≤ l.most; child : (i : ℕ) → i < l.child-index → slice_index (numbers l.item) i ≤ l.most }
