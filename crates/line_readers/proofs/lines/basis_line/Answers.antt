use Rattle.std.proofs.Common.{◌≡◌, ◌≤◌, ◌<◌, ◌^◌, ℕ, true, false, List, length, map, refl, sym, ap, subst, ◌∙◌, arith, rules}
use Rattle.std.specs.Prelude.{◌&&◌, nat_eq, nat_le, nat_lt, codes, Option, Some, None, option_and_then, option_map}
use Rattle.std.specs.List.{list_all}
use Rattle.std.proofs.lemmas.Bool.Decides.{nat_tests}
use Rattle.std.proofs.lemmas.Grind.{common_steps}
use Rattle.perm_core.specs.Orders.{perm_cmp}
use Rattle.steps.specs.declared.step.Step.{Step}
use Rattle.spec_lines.specs.Forms.{Line, ascending}
use Rattle.spec_lines.specs.Forms.Line.{Basis, Root, Count, Entry, Grid, Child}
use Rattle.spec_lines.specs.Follows.Place.{AtBasis, AtRoot, AtCount, AtEntry, AtGrid, AtChild}
use Rattle.spec_lines.specs.Items.{keep_if, behind, items, dashed}
use Rattle.spec_lines.specs.Ranges.{is_from_1_to, is_in_range}
use Rattle.spec_lines.specs.Readings.{line_at, step_at}
use Rattle.line_readers.specs.Answers.{is_numbered, nothing_else}
use Rattle.line_readers.specs.Kept.{where_it}
use Rattle.line_readers.specs.LineItems.{words_of, one_number, two_numbers, entry_numbers, child_items}
use Rattle.line_readers.proofs.LineForms.{root_by, count_by, entry_by, grid_by, child_by, basis_by, basis_some}
use Rattle.line_readers.proofs.OutOfRange.{too_many, in_between, not_first, not_second, both, over, at_most, same_items, past_32_bits, within_32_bits}
use Rattle.line_readers.proofs.lines.basis_line.Goals as goal

pub returns-then-len-gt32 : goal.returns-then-len-gt32
returns-then-len-gt32 c =
    let parse : where_it (ascending perm_cmp) (option_and_then words_of (behind (codes "basis") (items 32 c.args.line.now))) ≡ Some c.in-Some.words = search rules in
    let far : 32 < length c.in-Some.words = omega (arith, c.len.ensures, c.if-len-gt32.true) in
    (Basis c.in-Some.words, basis_by c.args.line.now ∙ ap (option_map Basis) parse, not_first (is_from_1_to 32 (length c.in-Some.words)) (list_all (λ w. nat_le (length w) 9) c.in-Some.words) (too_many 32 (length c.in-Some.words) far))

pub returns-in-Some-2 : goal.returns-in-Some-2
returns-in-Some-2 c =
    let parse : where_it (ascending perm_cmp) (option_and_then words_of (behind (codes "basis") (items 32 c.args.line.now))) ≡ Some c.in-Some.words = search rules in
    let few : length c.in-Some.words ≤ 32 = omega (arith, c.len.ensures, c.if-len-gt32.false) in
    let short : list_all (λ w. nat_le (length w) 9) c.in-Some.words ≡ true = search rules in
    let mapped : map (λ p. p) c.in-Some-2.perms.items ≡ c.in-Some.words = search rules in
    subst (λ xs. (line_at AtBasis c.args.line.now ≡ Some (Basis xs)) × (is_in_range nothing_else (Basis xs) ≡ true)) (sym (same_items c.in-Some.words c.in-Some-2.perms.items mapped))
    (basis_by c.args.line.now ∙ ap (option_map Basis) parse, both (is_from_1_to 32 (length c.in-Some.words)) (list_all (λ w. nat_le (length w) 9) c.in-Some.words) (in_between 32 (length c.in-Some.words) (basis_some c.args.line.now c.in-Some.words parse) few) short)

pub returns : goal.returns
returns c =
    let parse : where_it (ascending perm_cmp) (option_and_then words_of (behind (codes "basis") (items 32 c.args.line.now))) ≡ Some c.in-Some.words = search rules in
    let long : list_all (λ w. nat_le (length w) 9) c.in-Some.words ≡ false = search rules in
    (Basis c.in-Some.words, basis_by c.args.line.now ∙ ap (option_map Basis) parse, not_second (is_from_1_to 32 (length c.in-Some.words)) (list_all (λ w. nat_le (length w) 9) c.in-Some.words) long)
