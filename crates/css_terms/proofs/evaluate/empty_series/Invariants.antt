use Rattle.css_terms.specs.Series.{items_of}
use Rattle.css_terms.specs.Rows.{AreAt}
use Rattle.css_terms.proofs.evaluate.empty_series.Given as goal

abbrev pub invariant-loop-row : goal.invariant-loop-row
invariant-loop-row l = AreAt (items_of l.series.items) l.row 0
