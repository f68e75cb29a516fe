use Rattle.std.proofs.Common.{◌≡◌, ◌≤◌, ◌<◌, ◌^◌, ℕ, true, false, List, length, map, refl, sym, ap, subst, ◌∙◌, arith, rules}
use Rattle.std.specs.Prelude.{◌&&◌, nat_eq, nat_le, nat_lt, codes, Option, Some, None, option_and_then, option_map}
use Rattle.std.specs.List.{list_all}
use Rattle.std.proofs.lemmas.Bool.Decides.{nat_tests}
use Rattle.std.proofs.lemmas.Grind.{common_steps}
use Rattle.perm_core.specs.Orders.{perm_cmp}
use Rattle.steps.specs.declared.step.Step.{Step}
use Rattle.spec_lines.specs.Forms.{Line, ascending}
use Rattle.spec_lines.specs.Forms.Line.{Basis, Root, Count, Entry, Grid, Child}
use Rattle.spec_lines.specs.Follows.Place.{AtBasis, AtRoot, AtCount, AtEntry, AtGrid, AtChild}
use Rattle.spec_lines.specs.Items.{keep_if, behind, items, dashed}
use Rattle.spec_lines.specs.Ranges.{is_from_1_to, is_in_range}
use Rattle.spec_lines.specs.Readings.{line_at, step_at}
use Rattle.line_readers.specs.Answers.{is_numbered, nothing_else}
use Rattle.line_readers.specs.Kept.{where_it}
use Rattle.line_readers.specs.LineItems.{words_of, one_number, two_numbers, entry_numbers, child_items}
use Rattle.line_readers.proofs.LineForms.{root_by, count_by, entry_by, grid_by, child_by, basis_by, basis_some}
use Rattle.line_readers.proofs.OutOfRange.{too_many, in_between, not_first, not_second, both, over, at_most, same_items, past_32_bits, within_32_bits}
use Rattle.line_readers.proofs.lines.entry_line.Goals as goal

pub returns-in-None : goal.returns-in-None
returns-in-None c =
    let parse : option_and_then entry_numbers (behind (codes "entry") (items 32 c.args.line.now)) ≡ Some (c.in-Some.entry, c.in-Some.rank) = search rules in
    let numbered : nat_eq c.in-Some.entry c.args.number ≡ true = search rules in (
      Entry c.in-Some.entry c.in-Some.rank,
      ap (where_it (is_numbered c.args.number)) (entry_by c.args.line.now c.args.number ∙ ap (option_map (λ (p : ℕ × ℕ). Entry p.0 p.1)) parse) ∙ ap (λ b. keep_if b (Entry c.in-Some.entry c.in-Some.rank)) numbered,
      past_32_bits c.in-Some.rank c.in-None.ensures,
    )
