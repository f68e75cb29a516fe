use Rattle.std.proofs.Common.{◌≡◌, take}
use Rattle.std.specs.Prelude.{map}
use Rattle.css_terms.specs.SpecRows.{row_of}
use Rattle.css_terms.proofs.spec_terms.rows_of.Given as goal

abbrev pub invariant-loop-entry : goal.invariant-loop-entry
invariant-loop-entry g l = l.rows.items ≡ map (row_of g.D.Domain.meaning) (take l.entry-index l.entries)
