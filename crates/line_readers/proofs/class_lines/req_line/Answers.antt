use Rattle.std.proofs.Common.{◌≡◌, ℕ, true, false, List, map, refl, sym, ap, subst, ◌∙◌, rules}
use Rattle.std.specs.Prelude.{codes, Option, Some, None, option_and_then, option_map}
use Rattle.std.specs.List.{list_all}
use Rattle.std.specs.Cmp.Lexicographic.{slice_cmp}
use Rattle.gridded.specs.Orders.{gridded_cmp}
use Rattle.spec_lines.specs.Forms.{ascending, is_patterns}
use Rattle.spec_lines.specs.Forms.Line.{Obstructions, Requirements}
use Rattle.spec_lines.specs.Follows.Place.{AtObstructions, AtRequirements}
use Rattle.spec_lines.specs.Items.{behind, items, dashed}
use Rattle.spec_lines.specs.Ranges.{is_in_range, is_short}
use Rattle.spec_lines.specs.Readings.{line_at, list_at, pattern_at}
use Rattle.line_readers.specs.Answers.{nothing_else}
use Rattle.line_readers.specs.Kept.{where_it}
use Rattle.line_readers.proofs.ListForms.{obs_by, req_by, obs_inside, req_inside}
use Rattle.line_readers.proofs.OutOfRange.{same_items}
use Rattle.line_readers.proofs.class_lines.req_line.Goals as goal

pub returns-in_default : goal.returns-in_default
returns-in_default c =
    let parse : where_it (ascending (slice_cmp gridded_cmp)) (option_and_then (dashed (λ t. where_it is_patterns (list_at t))) (behind (codes "req") (items 32 c.args.line.now))) ≡ None = search rules in
    req_by c.args.line.now ∙ ap (option_map Requirements) parse

pub returns-in-Some-2 : goal.returns-in-Some-2
returns-in-Some-2 c =
    let parse : where_it (ascending (slice_cmp gridded_cmp)) (option_and_then (dashed (λ t. where_it is_patterns (list_at t))) (behind (codes "req") (items 32 c.args.line.now))) ≡ Some c.in-Some.lists = search rules in
    let short : list_all (list_all is_short) c.in-Some.lists ≡ true = search rules in
    let mapped : map (λ v. v.items) c.in-Some-2.lists.items ≡ c.in-Some.lists = search rules in
    subst (λ xs. (line_at (AtRequirements 0 0) c.args.line.now ≡ Some (Requirements xs)) × (is_in_range nothing_else (Requirements xs) ≡ true)) (sym mapped)
    (req_by c.args.line.now ∙ ap (option_map Requirements) parse, req_inside c.args.line.now c.in-Some.lists parse ∙ short)

pub returns : goal.returns
returns c =
    let parse : where_it (ascending (slice_cmp gridded_cmp)) (option_and_then (dashed (λ t. where_it is_patterns (list_at t))) (behind (codes "req") (items 32 c.args.line.now))) ≡ Some c.in-Some.lists = search rules in
    let long : list_all (list_all is_short) c.in-Some.lists ≡ false = search rules in
    (Requirements c.in-Some.lists, req_by c.args.line.now ∙ ap (option_map Requirements) parse, req_inside c.args.line.now c.in-Some.lists parse ∙ long)
