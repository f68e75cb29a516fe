use Rattle.std.proofs.Common.{◌≡◌, ◌≤◌, ◌<◌, true, false, List, length, map, sym, ap, subst, ◌∙◌, arith, rules}
use Rattle.std.specs.Prelude.{◌&&◌, codes, Option, Some, None, option_and_then, option_map}
use Rattle.std.specs.List.{list_all}
use Rattle.spec_lines.specs.Forms.{has_items}
use Rattle.spec_lines.specs.Forms.Line.{Terms}
use Rattle.spec_lines.specs.Follows.Place.{AtTerms}
use Rattle.spec_lines.specs.Items.{behind, items, read_all}
use Rattle.spec_lines.specs.Ranges.{is_from_1_to, is_in_range, is_term_in_range}
use Rattle.spec_lines.specs.Readings.{line_at, term_at}
use Rattle.line_readers.specs.Answers.{nothing_else}
use Rattle.line_readers.specs.Kept.{where_it}
use Rattle.line_readers.specs.Terms.{is_big_last}
use Rattle.line_readers.proofs.TermForms.{terms_by, terms_some}
use Rattle.line_readers.proofs.OutOfRange.{too_many, in_between, not_first, not_second, both, same_items}
use Rattle.line_readers.proofs.term.terms_line.Goals as goal

pub returns-in_default : goal.returns-in_default
returns-in_default c =
    let parse : where_it (λ ts. has_items ts && is_big_last ts) (option_and_then (read_all term_at) (behind (codes "terms") (items 32 c.args.line.now))) ≡ None = search rules in
    terms_by c.args.line.now ∙ ap (option_map Terms) parse

pub returns-then-len-gt201 : goal.returns-then-len-gt201
returns-then-len-gt201 c =
    let parse : where_it (λ ts. has_items ts && is_big_last ts) (option_and_then (read_all term_at) (behind (codes "terms") (items 32 c.args.line.now))) ≡ Some c.in-Some.terms = search rules in
    let far : 201 < length c.in-Some.terms = omega (arith, c.len.ensures, c.if-len-gt201.true) in
    (Terms c.in-Some.terms, terms_by c.args.line.now ∙ ap (option_map Terms) parse, not_first (is_from_1_to 201 (length c.in-Some.terms)) (list_all is_term_in_range c.in-Some.terms) (too_many 201 (length c.in-Some.terms) far))

pub returns-in-Some-2 : goal.returns-in-Some-2
returns-in-Some-2 c =
    let parse : where_it (λ ts. has_items ts && is_big_last ts) (option_and_then (read_all term_at) (behind (codes "terms") (items 32 c.args.line.now))) ≡ Some c.in-Some.terms = search rules in
    let few : length c.in-Some.terms ≤ 201 = omega (arith, c.len.ensures, c.if-len-gt201.false) in
    let small : list_all is_term_in_range c.in-Some.terms ≡ true = search rules in
    let mapped : map (λ t. t) c.in-Some-2.terms.items ≡ c.in-Some.terms = search rules in
    subst (λ xs. (line_at AtTerms c.args.line.now ≡ Some (Terms xs)) × (is_in_range nothing_else (Terms xs) ≡ true)) (sym (same_items c.in-Some.terms c.in-Some-2.terms.items mapped))
    (terms_by c.args.line.now ∙ ap (option_map Terms) parse, both (is_from_1_to 201 (length c.in-Some.terms)) (list_all is_term_in_range c.in-Some.terms) (in_between 201 (length c.in-Some.terms) (terms_some c.args.line.now c.in-Some.terms parse) few) small)

pub returns : goal.returns
returns c =
    let parse : where_it (λ ts. has_items ts && is_big_last ts) (option_and_then (read_all term_at) (behind (codes "terms") (items 32 c.args.line.now))) ≡ Some c.in-Some.terms = search rules in
    let large : list_all is_term_in_range c.in-Some.terms ≡ false = search rules in
    (Terms c.in-Some.terms, terms_by c.args.line.now ∙ ap (option_map Terms) parse, not_second (is_from_1_to 201 (length c.in-Some.terms)) (list_all is_term_in_range c.in-Some.terms) large)
