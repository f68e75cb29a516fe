use Rattle.lists.proofs.Places.{IsIn-slice_get, some_at}
use Rattle.css_terms.proofs.spec_terms.rows_of.Goals as goal

pub row_of-requires-after_bounds : goal.row_of-requires-after_bounds
row_of-requires-after_bounds g c =
    let at = some_at c.args.entries.now c.loop-entry.entry-index c.entry-item.result c.loop-entry-test.true c.entry-item.is in
    λ κs l. c.requires c.entry-item.result (IsIn-slice_get c.args.entries.now c.loop-entry.entry-index c.entry-item.result at)
