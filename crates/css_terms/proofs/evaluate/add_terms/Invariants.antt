use Rattle.std.proofs.Common.{◌≡◌, length}
use Rattle.css_terms.specs.Series.{items_of}
use Rattle.css_terms.specs.Rows.{AreNear, StillShow}
use Rattle.css_terms.proofs.Passes.{AreDone}
use Rattle.css_terms.proofs.evaluate.add_terms.Given as goal

abbrev pub invariant-loop-pair : goal.invariant-loop-pair
invariant-loop-pair l = (length l.series.items ≡ length l.rows) × AreNear (items_of l.series.items) l.n × AreDone (items_of l.series.items) l.order l.pair-index l.n × StillShow l.rows (items_of l.fn.series.items) (items_of l.series.items)
