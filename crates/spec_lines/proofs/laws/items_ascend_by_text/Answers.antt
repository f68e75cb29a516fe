use Rattle.spec_lines.proofs.TextOrders.{words_ascend, cells_ascend, patterns_ascend, lists_ascend}
use Rattle.spec_lines.proofs.laws.items_ascend_by_text.Goals as goal

pub returns : goal.returns
returns c = record { words = words_ascend; cells = cells_ascend; patterns = patterns_ascend; lists = lists_ascend }
