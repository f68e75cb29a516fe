use Rattle.std.proofs.Common.{◌≡◌, ◌≤◌, ◌<◌, ℕ, true, false, List, length, map, refl, sym, ap, subst, ◌∙◌, arith, rules}
use Rattle.std.specs.Prelude.{◌&&◌, nat_le, Option, Some, None, option_map}
use Rattle.std.specs.List.{list_all}
use Rattle.gridded.specs.declared.cell.Cell.{Cell}
use Rattle.gridded.specs.Orders.{cells_of, gridded_cmp}
use Rattle.rule_kinds.specs.declared.kind.Kind.TheVariants as kind
use Rattle.spec_lines.specs.Forms.{has_items, ascending}
use Rattle.spec_lines.specs.Ranges.{is_from_1_to, is_short, is_small, is_small_pattern, is_kind_in_range}
use Rattle.line_readers.specs.KindItems.{insert_read, place_read, cut_read, factor_read, infer_read}
use Rattle.line_readers.proofs.KindAnswers.{all_small}
use Rattle.line_readers.proofs.OutOfRange.{too_many, in_between, not_first, not_second, both, over, at_most, same_items}
use Rattle.std.specs.Prelude.{option_and_then}
use Rattle.spec_lines.specs.Readings.{pattern_at}
use Rattle.line_readers.specs.KindItems.{sole}
use Rattle.line_readers.proofs.kinds.read_insert.Goals as goal

pub returns-in-None : goal.returns-in-None
returns-in-None c =
    let item : sole c.args.items ≡ Some c.in-Some.item.now = search rules in
    let pattern : pattern_at c.in-Some.item.now ≡ Some c.in-Some-of.pattern = search rules in
    (kind.Insert c.in-Some-of.pattern, ap (option_and_then (λ t. option_map kind.Insert (pattern_at t))) item ∙ ap (option_map kind.Insert) pattern, c.in-None.ensures)
