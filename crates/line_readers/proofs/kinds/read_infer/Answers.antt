use Rattle.std.proofs.Common.{◌≡◌, ◌≤◌, ◌<◌, ℕ, true, false, List, length, map, refl, sym, ap, subst, ◌∙◌, arith, rules}
use Rattle.std.specs.Prelude.{◌&&◌, nat_le, Option, Some, None, option_map}
use Rattle.std.specs.List.{list_all}
use Rattle.gridded.specs.declared.cell.Cell.{Cell}
use Rattle.gridded.specs.Orders.{cells_of, gridded_cmp}
use Rattle.rule_kinds.specs.declared.kind.Kind.TheVariants as kind
use Rattle.spec_lines.specs.Forms.{has_items, ascending}
use Rattle.spec_lines.specs.Ranges.{is_from_1_to, is_short, is_small, is_small_pattern, is_kind_in_range}
use Rattle.line_readers.specs.KindItems.{insert_read, place_read, cut_read, factor_read, infer_read}
use Rattle.line_readers.proofs.KindAnswers.{all_small}
use Rattle.line_readers.proofs.OutOfRange.{too_many, in_between, not_first, not_second, both, over, at_most, same_items}
use Rattle.line_readers.proofs.kinds.read_infer.Goals as goal

pub returns-then-not-are_all_small : goal.returns-then-not-are_all_small
returns-then-not-are_all_small c =
    let read : infer_read c.args.items ≡ Some (kind.Infer c.in-Some.patterns) = search rules in
    let large : list_all (λ g. is_small (cells_of g)) c.in-Some.patterns ≡ false = search rules in
    (kind.Infer c.in-Some.patterns, read, all_small c.in-Some.patterns ∙ not_second (list_all is_short c.in-Some.patterns) (list_all (λ g. is_small (cells_of g)) c.in-Some.patterns) large)

pub returns-in-Some-2 : goal.returns-in-Some-2
returns-in-Some-2 c =
    let read : infer_read c.args.items ≡ Some (kind.Infer c.in-Some.patterns) = search rules in
    let small : list_all (λ g. is_small (cells_of g)) c.in-Some.patterns ≡ true = search rules in
    let short : list_all is_short c.in-Some.patterns ≡ true = search rules in
    let mapped : map (λ g. g) c.in-Some-2.patterns.items ≡ c.in-Some.patterns = search rules in
    subst (λ xs. (infer_read c.args.items ≡ Some (kind.Infer xs)) × (is_kind_in_range (kind.Infer xs) ≡ true)) (sym (c.of.ensures ∙ same_items c.in-Some.patterns c.in-Some-2.patterns.items mapped))
    (read, all_small c.in-Some.patterns ∙ both (list_all is_short c.in-Some.patterns) (list_all (λ g. is_small (cells_of g)) c.in-Some.patterns) short small)

pub returns : goal.returns
returns c =
    let read : infer_read c.args.items ≡ Some (kind.Infer c.in-Some.patterns) = search rules in
    let long : list_all is_short c.in-Some.patterns ≡ false = search rules in
    (kind.Infer c.in-Some.patterns, read, all_small c.in-Some.patterns ∙ not_first (list_all is_short c.in-Some.patterns) (list_all (λ g. is_small (cells_of g)) c.in-Some.patterns) long)
