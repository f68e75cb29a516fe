use Rattle.std.proofs.Common.{◌≡◌, ◌≤◌, ◌<◌, ℕ, true, false, List, length, map, refl, sym, ap, subst, ◌∙◌, arith, rules}
use Rattle.std.specs.Prelude.{◌&&◌, nat_le, Option, Some, None, option_map}
use Rattle.std.specs.List.{list_all}
use Rattle.gridded.specs.declared.cell.Cell.{Cell}
use Rattle.gridded.specs.Orders.{cells_of, gridded_cmp}
use Rattle.rule_kinds.specs.declared.kind.Kind.TheVariants as kind
use Rattle.spec_lines.specs.Forms.{has_items, ascending}
use Rattle.spec_lines.specs.Ranges.{is_from_1_to, is_short, is_small, is_small_pattern, is_kind_in_range}
use Rattle.line_readers.specs.KindItems.{insert_read, place_read, cut_read, factor_read, infer_read}
use Rattle.line_readers.proofs.KindAnswers.{all_small}
use Rattle.line_readers.proofs.OutOfRange.{too_many, in_between, not_first, not_second, both, over, at_most, same_items}
use Rattle.line_readers.proofs.kinds.read_cut.Goals as goal

pub returns-in_default-up_to : goal.returns-in_default-up_to
returns-in_default-up_to c =
    let read : cut_read c.args.items ≡ Some (c.in-Some-read.number, c.in-Some-2.set) = search rules in
    let far : 7 < c.in-Some-read.number = search rules in
    ((c.in-Some-read.number, c.in-Some-2.set), read, not_first (nat_le c.in-Some-read.number 7) (is_small c.in-Some-2.set) (over c.in-Some-read.number 7 far))

pub returns : goal.returns
returns c =
    let read : cut_read c.args.items ≡ Some (c.in-Some-read.number, c.in-Some-2.set) = search rules in
    let large : is_small c.in-Some-2.set ≡ false = search rules in
    ((c.in-Some-read.number, c.in-Some-2.set), read, not_second (nat_le c.in-Some-read.number 7) (is_small c.in-Some-2.set) large)
