-- A sort by rank.
use Rattle.std.proofs.Common.{sym}
use Rattle.css_terms.proofs.RankOrder.{in_order, by_first_number}
use Rattle.css_terms.proofs.order.in_order_of_rank.Goals as goal

pub returns : goal.returns
returns c = in_order c.args.rows.now c.sort.new.self.items (rw (sym c.in_ok-order.ensures) c.in_ok-sort.ensures.permutation) (by_first_number c.sort.new.self.items c.in_ok-sort.ensures.sorted)
