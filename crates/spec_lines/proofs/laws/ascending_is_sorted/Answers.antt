use Rattle.std.specs.Cmp.Lexicographic.{slice_cmp, lists_total}
use Rattle.perm_core.specs.Orders.{perm_cmp, perm_total}
use Rattle.gridded.specs.Orders.{cell_cmp, gridded_cmp}
use Rattle.gridded.specs.OrderLaws.{cell_total, gridded_total}
use Rattle.spec_lines.proofs.Ascents.{ascent}
use Rattle.spec_lines.proofs.laws.ascending_is_sorted.Goals as goal

pub returns : goal.returns
returns c = record { words = ascent perm_cmp perm_total; cells = ascent cell_cmp cell_total; patterns = ascent gridded_cmp gridded_total; lists = ascent (slice_cmp gridded_cmp) (lists_total gridded_total) }
