-- Answers for two whole texts, for each of their proper fronts, and for texts that differ from one of them in a line, computed.
use Rattle.std.specs.Prelude.{◌≡◌, ℕ, Bool, true, false, nat_eq, List, [], ◌∷◌, ◌++◌, length, codes, take, refl}
use Rattle.std.specs.List.{list_all, range_with_len}
use Rattle.spec_lines.specs.Lines.{Text}
use Rattle.spec_lines.specs.Items.{items, lines_of}
use Rattle.spec_lines.specs.Faults.{Answer, answer}
use Rattle.spec_lines.specs.Faults.Answer.{Spelled, Grammar, Limit}
use Rattle.spec_lines.proofs.EdgeRows.{told, changed_in}

-- three entries, and the permutations that avoid 01 and 10
abbrev three_entries : Text
three_entries = codes "tilescope 1\nbasis 01,10\nroot -\nentries 3\nentry 0 rank 2\ngrid 1 1\nobs 01:00.00 10:00.00\nreq -\n"
    ++ codes "rule insert 0:00\nto 1 M C0 R0\nto 2 -\nentry 1 rank 1\ngrid 0 0\nobs -\nreq -\nrule unit\nentry 2 rank 1\n"
    ++ codes "grid 1 1\nobs 01:00.00 10:00.00\nreq 0:00\nrule point\nterms 1 1 0 0\nend\n"

-- six entries, and the permutations that avoid 021
abbrev six_entries : Text
six_entries = codes "tilescope 1\nbasis 021\nroot -\nentries 6\nentry 0 rank 3\ngrid 1 1\nobs 021:00.00.00\nreq -\n"
    ++ codes "rule place N 0:00^0\nto 1 M C0 R0\nto 2 M K11 M R2\nentry 1 rank 1\ngrid 0 0\nobs -\nreq -\nrule unit\n"
    ++ codes "entry 2 rank 2\ngrid 3 2\nobs 0:01 0:10 0:21 01:00.20 01:11.11 10:11.11 021:00.00.00 021:20.20.20\nreq 0:11\n"
    ++ codes "rule factor 00.20 11\nto 3 C1 R1\nto 4 C0 C1 R0\nentry 3 rank 5\ngrid 2 1\n"
    ++ codes "obs 01:00.10 021:00.00.00 021:10.10.10\nreq -\nrule rowcut 0 10\nto 5 M\nentry 4 rank 1\ngrid 1 1\n"
    ++ codes "obs 01:00.00 10:00.00\nreq 0:00\nrule point\nentry 5 rank 4\ngrid 2 2\nobs 0:00 0:11 021:01.01.01 021:10.10.10\n"
    ++ codes "req -\nrule factor 01 10\nto 0 C1 R0\nto 0 C0 R1\nterms 1 1 2 5 14 42 132\nend\n"

three_in_form : told (answer three_entries) ≡ Spelled []
three_in_form = refl

six_in_form : told (answer six_entries) ≡ Spelled []
six_in_form = refl

-- ====== fronts ======
abbrev is_grammar_at : ℕ → Answer → Bool
is_grammar_at number (Grammar k) = nat_eq k number
is_grammar_at number _ = false

-- each proper front ends early: the line at fault is the one that isn't finished
abbrev fronts_end_early : Text → Bool
fronts_end_early text = list_all (λ n. is_grammar_at (length (items 10 (take n text))) (answer (take n text))) (range_with_len 0 (length text))

fronts_of_three : fronts_end_early three_entries ≡ true
fronts_of_three = refl

fronts_of_six : fronts_end_early six_entries ≡ true
fronts_of_six = refl

-- ====== changed lines ======
abbrev changed : Text → ℕ → List Text → ℕ → Answer
changed text = changed_in (lines_of text)

another_first_line : changed six_entries 0 (codes "tilescope 2" ∷ []) 1 ≡ Grammar 1
another_first_line = refl

number_zero_led : changed six_entries 3 (codes "entries 06" ∷ []) 1 ≡ Grammar 4
number_zero_led = refl

root_by_another_trace : changed six_entries 2 (codes "root M" ∷ []) 1 ≡ Spelled []
root_by_another_trace = refl

child_past_the_entries : changed six_entries 28 (codes "to 9 M" ∷ []) 1 ≡ Limit 29
child_past_the_entries = refl

term_zero_led : changed six_entries 41 (codes "terms 01" ∷ []) 1 ≡ Grammar 42
term_zero_led = refl

line_behind_the_end : changed six_entries 43 (codes "x" ∷ []) 0 ≡ Grammar 44
line_behind_the_end = refl

one_child_missing : changed three_entries 10 [] 1 ≡ Grammar 11
one_child_missing = refl

one_child_more : changed three_entries 10 (codes "to 2 -" ∷ codes "to 2 -" ∷ []) 1 ≡ Grammar 12
one_child_more = refl

child_3_of_3 : changed three_entries 10 (codes "to 3 -" ∷ []) 1 ≡ Limit 11
child_3_of_3 = refl

entries_5 : changed three_entries 3 (codes "entries 5" ∷ []) 1 ≡ Grammar 22
entries_5 = refl

entries_2 : changed three_entries 3 (codes "entries 2" ∷ []) 1 ≡ Grammar 17
entries_2 = refl

second_entry_without_rule : changed three_entries 15 [] 1 ≡ Grammar 16
second_entry_without_rule = refl

second_entry_without_requirements : changed three_entries 14 [] 1 ≡ Grammar 15
second_entry_without_requirements = refl

second_entry_by_a_placement : changed three_entries 15 (codes "rule place N" ∷ codes "to 0 -" ∷ []) 1 ≡ Limit 16
second_entry_by_a_placement = refl

pattern_past_the_second_grid : changed three_entries 13 (codes "obs 0:00" ∷ []) 1 ≡ Limit 14
pattern_past_the_second_grid = refl

pattern_in_the_third_grid : changed three_entries 18 (codes "obs 0:00" ∷ []) 1 ≡ Spelled []
pattern_in_the_third_grid = refl

third_grid_is_narrower : changed three_entries 17 (codes "grid 0 1" ∷ []) 1 ≡ Limit 19
third_grid_is_narrower = refl

list_of_ten_letters : changed three_entries 19 (codes "req 0:00 9876543210:99.99.99.99.99.99.99.99.99.99" ∷ []) 1 ≡ Limit 20
list_of_ten_letters = refl

limit_then_grammar : changed three_entries 19 (codes "req 0:01" ∷ codes "rule points" ∷ []) 2 ≡ Grammar 21
limit_then_grammar = refl

empty_line_for_the_end : changed three_entries 22 (codes "" ∷ []) 1 ≡ Grammar 23
empty_line_for_the_end = refl
