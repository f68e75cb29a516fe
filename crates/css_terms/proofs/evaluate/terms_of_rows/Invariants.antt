use Rattle.std.proofs.Common.{ℕ, length}
use Rattle.css_terms.specs.Series.{items_of, lists_of}
use Rattle.css_terms.specs.Rows.{AreAt, AreRowCounts, AllShow, AreTails}
use Rattle.css_terms.proofs.Cuts.{NoneBig}
use Rattle.css_terms.proofs.evaluate.terms_of_rows.Given as goal

abbrev pub invariant-loop-n : goal.invariant-loop-n
invariant-loop-n l = AreAt (items_of l.series.items) (length l.rows) l.n × ((count : ℕ → ℕ → ℕ) → AreRowCounts l.rows count → AllShow (items_of l.series.items) count) × ((count : ℕ → ℕ → ℕ) → AreRowCounts l.rows count → NoneBig (count 0) l.n) × AreTails l.rows (lists_of l.tails.items) l.n
