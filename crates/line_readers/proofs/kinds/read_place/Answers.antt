use Rattle.std.proofs.Common.{◌≡◌, ◌≤◌, ◌<◌, ℕ, true, false, List, length, map, refl, sym, ap, subst, ◌∙◌, arith, rules}
use Rattle.std.specs.Prelude.{◌&&◌, nat_le, Option, Some, None, option_map}
use Rattle.std.specs.List.{list_all}
use Rattle.gridded.specs.declared.cell.Cell.{Cell}
use Rattle.gridded.specs.Orders.{cells_of, gridded_cmp}
use Rattle.rule_kinds.specs.declared.kind.Kind.TheVariants as kind
use Rattle.spec_lines.specs.Forms.{has_items, ascending}
use Rattle.spec_lines.specs.Ranges.{is_from_1_to, is_short, is_small, is_small_pattern, is_kind_in_range}
use Rattle.line_readers.specs.KindItems.{insert_read, place_read, cut_read, factor_read, infer_read}
use Rattle.line_readers.proofs.KindAnswers.{all_small}
use Rattle.line_readers.proofs.OutOfRange.{too_many, in_between, not_first, not_second, both, over, at_most, same_items}
use Rattle.line_readers.proofs.kinds.read_place.Goals as goal

pub returns-then-count-eq0 : goal.returns-then-count-eq0
returns-then-count-eq0 c =
    let read : place_read c.args.items ≡ Some (kind.Place c.in-Some-2.pointed c.in-Some-read_direction.direction) = search rules in
    let none : length c.in-Some-2.pointed ≡ 0 = omega (arith, c.len-count.ensures, c.if-count-eq0.true) in
    (kind.Place c.in-Some-2.pointed c.in-Some-read_direction.direction, read, not_first (is_from_1_to 64 (length c.in-Some-2.pointed)) (list_all (λ q. is_small_pattern q.pattern) c.in-Some-2.pointed) (ap (λ n. is_from_1_to 64 n) none))

pub returns-then-count-gt64 : goal.returns-then-count-gt64
returns-then-count-gt64 c =
    let read : place_read c.args.items ≡ Some (kind.Place c.in-Some-2.pointed c.in-Some-read_direction.direction) = search rules in
    let far : 64 < length c.in-Some-2.pointed = omega (arith, c.len-count.ensures, c.if-count-gt64.true) in
    (kind.Place c.in-Some-2.pointed c.in-Some-read_direction.direction, read, not_first (is_from_1_to 64 (length c.in-Some-2.pointed)) (list_all (λ q. is_small_pattern q.pattern) c.in-Some-2.pointed) (too_many 64 (length c.in-Some-2.pointed) far))

pub returns : goal.returns
returns c =
    let read : place_read c.args.items ≡ Some (kind.Place c.in-Some-2.pointed c.in-Some-read_direction.direction) = search rules in
    let large : list_all (λ q. is_small_pattern q.pattern) c.in-Some-2.pointed ≡ false = search rules in
    (kind.Place c.in-Some-2.pointed c.in-Some-read_direction.direction, read, not_second (is_from_1_to 64 (length c.in-Some-2.pointed)) (list_all (λ q. is_small_pattern q.pattern) c.in-Some-2.pointed) large)
