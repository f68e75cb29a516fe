use Rattle.std.proofs.Common.{◌≡◌, ℕ, true, false, List, map, refl, sym, ap, subst, ◌∙◌, rules}
use Rattle.std.specs.Prelude.{codes, Option, Some, None, option_and_then, option_map}
use Rattle.std.specs.List.{list_all}
use Rattle.std.specs.Cmp.Lexicographic.{slice_cmp}
use Rattle.gridded.specs.Orders.{gridded_cmp}
use Rattle.spec_lines.specs.Forms.{ascending, is_patterns}
use Rattle.spec_lines.specs.Forms.Line.{Obstructions, Requirements}
use Rattle.spec_lines.specs.Follows.Place.{AtObstructions, AtRequirements}
use Rattle.spec_lines.specs.Items.{behind, items, dashed}
use Rattle.spec_lines.specs.Ranges.{is_in_range, is_short}
use Rattle.spec_lines.specs.Readings.{line_at, list_at, pattern_at}
use Rattle.line_readers.specs.Answers.{nothing_else}
use Rattle.line_readers.specs.Kept.{where_it}
use Rattle.line_readers.proofs.ListForms.{obs_by, req_by, obs_inside, req_inside}
use Rattle.line_readers.proofs.OutOfRange.{same_items}
use Rattle.line_readers.proofs.class_lines.obs_line.Goals as goal

pub returns-in-Some-2 : goal.returns-in-Some-2
returns-in-Some-2 c =
    let parse : where_it (ascending gridded_cmp) (option_and_then (dashed pattern_at) (behind (codes "obs") (items 32 c.args.line.now))) ≡ Some c.in-Some.patterns = search rules in
    let short : list_all is_short c.in-Some.patterns ≡ true = search rules in
    let mapped : map (λ g. g) c.in-Some-2.patterns.items ≡ c.in-Some.patterns = search rules in
    subst (λ xs. (line_at (AtObstructions 0 0) c.args.line.now ≡ Some (Obstructions xs)) × (is_in_range nothing_else (Obstructions xs) ≡ true)) (sym (same_items c.in-Some.patterns c.in-Some-2.patterns.items mapped))
    (obs_by c.args.line.now ∙ ap (option_map Obstructions) parse, obs_inside c.args.line.now c.in-Some.patterns parse ∙ short)

pub returns : goal.returns
returns c =
    let parse : where_it (ascending gridded_cmp) (option_and_then (dashed pattern_at) (behind (codes "obs") (items 32 c.args.line.now))) ≡ Some c.in-Some.patterns = search rules in
    let long : list_all is_short c.in-Some.patterns ≡ false = search rules in
    (Obstructions c.in-Some.patterns, obs_by c.args.line.now ∙ ap (option_map Obstructions) parse, obs_inside c.args.line.now c.in-Some.patterns parse ∙ long)
