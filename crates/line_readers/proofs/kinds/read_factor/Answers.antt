use Rattle.std.proofs.Common.{◌≡◌, ◌≤◌, ◌<◌, ℕ, true, false, List, length, map, refl, sym, ap, subst, ◌∙◌, arith, rules}
use Rattle.std.specs.Prelude.{◌&&◌, nat_le, Option, Some, None, option_map}
use Rattle.std.specs.List.{list_all}
use Rattle.gridded.specs.declared.cell.Cell.{Cell}
use Rattle.gridded.specs.Orders.{cells_of, gridded_cmp}
use Rattle.rule_kinds.specs.declared.kind.Kind.TheVariants as kind
use Rattle.spec_lines.specs.Forms.{has_items, ascending}
use Rattle.spec_lines.specs.Ranges.{is_from_1_to, is_short, is_small, is_small_pattern, is_kind_in_range}
use Rattle.line_readers.specs.KindItems.{insert_read, place_read, cut_read, factor_read, infer_read}
use Rattle.line_readers.proofs.KindAnswers.{all_small}
use Rattle.line_readers.proofs.OutOfRange.{too_many, in_between, not_first, not_second, both, over, at_most, same_items}
use Rattle.line_readers.proofs.kinds.read_factor.Goals as goal

pub returns-then-len-gt64 : goal.returns-then-len-gt64
returns-then-len-gt64 c =
    let read : factor_read c.args.items ≡ Some (kind.Factor c.in-Some.sets) = search rules in
    let far : 64 < length c.in-Some.sets = omega (arith, c.len-2.ensures, c.if-len-gt64.true) in
    (kind.Factor c.in-Some.sets, read, not_first (is_from_1_to 64 (length c.in-Some.sets)) (list_all is_small c.in-Some.sets) (too_many 64 (length c.in-Some.sets) far))

pub returns : goal.returns
returns c =
    let read : factor_read c.args.items ≡ Some (kind.Factor c.in-Some.sets) = search rules in
    let large : list_all is_small c.in-Some.sets ≡ false = search rules in
    (kind.Factor c.in-Some.sets, read, not_second (is_from_1_to 64 (length c.in-Some.sets)) (list_all is_small c.in-Some.sets) large)
