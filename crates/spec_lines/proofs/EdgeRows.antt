-- Answers for texts that differ in a few lines from one of a single entry, computed.
use Rattle.std.specs.Prelude.{◌≡◌, ℕ, List, [], ◌∷◌, ◌++◌, codes, take, drop, refl}
use Rattle.std.specs.List.{repeat}
use Rattle.spec_lines.specs.Lines.{Text}
use Rattle.spec_lines.specs.Items.{with_feeds}
use Rattle.spec_lines.specs.Faults.{Answer, answer}
use Rattle.spec_lines.specs.Faults.Answer.{Spelled, Grammar, Limit}

-- the answer, with its lines left out
abbrev pub told : Answer → Answer
told (Spelled lines) = Spelled []
told (Grammar number) = Grammar number
told (Limit number) = Limit number

abbrev small : List Text
small = codes "tilescope 1" ∷ codes "basis 0" ∷ codes "root C0 R0" ∷ codes "entries 1" ∷ codes "entry 0 rank 1" ∷ codes "grid 0 0" ∷ codes "obs -" ∷ codes "req -" ∷ codes "rule unit" ∷ codes "terms 1 0 0 0" ∷ codes "end" ∷ []

-- what is told of a text's lines where, behind so many, others stand in place of some
abbrev pub changed_in : List Text → ℕ → List Text → ℕ → Answer
changed_in text number lines gone = told (answer (with_feeds (take number text ++ lines ++ drop gone (drop number text))))

abbrev changed : ℕ → List Text → ℕ → Answer
changed = changed_in small

entries_none : changed 3 (codes "entries 0" ∷ []) 6 ≡ Limit 4
entries_none = refl

entries_none_but_one : changed 3 (codes "entries 0" ∷ []) 1 ≡ Grammar 5
entries_none_but_one = refl

entries_39_digits : changed 3 (codes "entries 999999999999999999999999999999999999999" ∷ []) 1 ≡ Grammar 10
entries_39_digits = refl

entries_40_digits : changed 3 (codes "entries 1111111111111111111111111111111111111111" ∷ []) 1 ≡ Grammar 4
entries_40_digits = refl

entries_zero_led : changed 3 (codes "entries 01" ∷ []) 1 ≡ Grammar 4
entries_zero_led = refl

rank_40_digits : changed 4 (codes "entry 0 rank 1111111111111111111111111111111111111111" ∷ []) 1 ≡ Grammar 5
rank_40_digits = refl

rank_39_digits : changed 4 (codes "entry 0 rank 999999999999999999999999999999999999999" ∷ []) 1 ≡ Limit 5
rank_39_digits = refl

rank_2_32 : changed 4 (codes "entry 0 rank 4294967296" ∷ []) 1 ≡ Limit 5
rank_2_32 = refl

rank_largest : changed 4 (codes "entry 0 rank 4294967295" ∷ []) 1 ≡ Spelled []
rank_largest = refl

rank_00 : changed 4 (codes "entry 0 rank 00" ∷ []) 1 ≡ Grammar 5
rank_00 = refl

rank_plus : changed 4 (codes "entry 0 rank +1" ∷ []) 1 ≡ Grammar 5
rank_plus = refl

entry_other_number : changed 4 (codes "entry 1 rank 1" ∷ []) 1 ≡ Grammar 5
entry_other_number = refl

entry_number_led : changed 4 (codes "entry 00 rank 1" ∷ []) 1 ≡ Grammar 5
entry_number_led = refl

two_blanks : changed 4 (codes "entry 0  rank 1" ∷ []) 1 ≡ Grammar 5
two_blanks = refl

blank_at_end : changed 8 (codes "rule unit " ∷ []) 1 ≡ Grammar 9
blank_at_end = refl

tab : changed 4 (codes "entry\t0 rank 1" ∷ []) 1 ≡ Grammar 5
tab = refl

carriage_return : changed 8 (codes "rule unit\r" ∷ []) 1 ≡ Grammar 9
carriage_return = refl

grammar_before_limit : changed 4 (codes "entry 0 rank 4294967296" ∷ codes "grid 0 0" ∷ codes "obs -" ∷ codes "req -" ∷ codes "rule unit" ∷ codes "terms 1 0 0 0" ∷ codes "End" ∷ []) 7 ≡ Grammar 11
grammar_before_limit = refl

first_limit_of_two : changed 4 (codes "entry 0 rank 4294967296" ∷ codes "grid 9 9" ∷ []) 2 ≡ Limit 5
first_limit_of_two = refl

word_10_letters : changed 1 (codes "basis 0123456789" ∷ []) 1 ≡ Limit 2
word_10_letters = refl

word_no_perm : changed 1 (codes "basis 02" ∷ []) 1 ≡ Grammar 2
word_no_perm = refl

word_repeats : changed 1 (codes "basis 00" ∷ []) 1 ≡ Grammar 2
word_repeats = refl

words_descend : changed 1 (codes "basis 01,0" ∷ []) 1 ≡ Grammar 2
words_descend = refl

words_equal : changed 1 (codes "basis 01,01" ∷ []) 1 ≡ Grammar 2
words_equal = refl

words_by_letters : changed 1 (codes "basis 10,01" ∷ []) 1 ≡ Grammar 2
words_by_letters = refl

no_word : changed 1 (codes "basis " ∷ []) 1 ≡ Grammar 2
no_word = refl

word_empty : changed 1 (codes "basis 0," ∷ []) 1 ≡ Grammar 2
word_empty = refl

trace_dash_and_step : changed 2 (codes "root - M" ∷ []) 1 ≡ Grammar 3
trace_dash_and_step = refl

trace_nothing : changed 2 (codes "root" ∷ []) 1 ≡ Grammar 3
trace_nothing = refl

trace_digits_9 : changed 2 (codes "root K99 C9 R8 V M L" ∷ []) 1 ≡ Spelled []
trace_digits_9 = refl

trace_two_digits : changed 2 (codes "root C10" ∷ []) 1 ≡ Grammar 3
trace_two_digits = refl

grid_9 : changed 5 (codes "grid 9 0" ∷ []) 1 ≡ Limit 6
grid_9 = refl

grid_8 : changed 5 (codes "grid 8 8" ∷ []) 1 ≡ Spelled []
grid_8 = refl

obs_e : changed 6 (codes "obs e" ∷ []) 1 ≡ Spelled []
obs_e = refl

obs_e_then_point : changed 5 (codes "grid 1 1" ∷ codes "obs e 0:00" ∷ []) 2 ≡ Spelled []
obs_e_then_point = refl

obs_descends : changed 5 (codes "grid 2 2" ∷ codes "obs 0:10 0:00" ∷ []) 2 ≡ Grammar 7
obs_descends = refl

obs_equal : changed 5 (codes "grid 1 1" ∷ codes "obs 0:00 0:00" ∷ []) 2 ≡ Grammar 7
obs_equal = refl

obs_nothing : changed 6 (codes "obs" ∷ []) 1 ≡ Grammar 7
obs_nothing = refl

obs_columns : changed 5 (codes "grid 2 2" ∷ codes "obs 01:10.00" ∷ []) 2 ≡ Grammar 7
obs_columns = refl

obs_rows : changed 5 (codes "grid 2 2" ∷ codes "obs 01:01.00" ∷ []) 2 ≡ Grammar 7
obs_rows = refl

obs_fewer_cells : changed 5 (codes "grid 1 1" ∷ codes "obs 01:00" ∷ []) 2 ≡ Grammar 7
obs_fewer_cells = refl

obs_outside : changed 5 (codes "grid 1 1" ∷ codes "obs 0:01" ∷ []) 2 ≡ Limit 7
obs_outside = refl

obs_cell_99 : changed 5 (codes "grid 8 8" ∷ codes "obs 0:99" ∷ []) 2 ≡ Limit 7
obs_cell_99 = refl

obs_ten_letters_ascend : changed 6 (codes "obs 0123456789:00.00.00.00.00.00.00.00.00.00 0123456798:00.00.00.00.00.00.00.00.00.00" ∷ []) 1 ≡ Limit 7
obs_ten_letters_ascend = refl

obs_ten_letters_descend : changed 6 (codes "obs 0123456798:00.00.00.00.00.00.00.00.00.00 0123456789:00.00.00.00.00.00.00.00.00.00" ∷ []) 1 ≡ Grammar 7
obs_ten_letters_descend = refl

obs_nine_then_ten : changed 5 (codes "grid 1 1" ∷ codes "obs 012345678:00.00.00.00.00.00.00.00.00 0123456789:00.00.00.00.00.00.00.00.00.00" ∷ []) 2 ≡ Limit 7
obs_nine_then_ten = refl

req_empty_list : changed 7 (codes "req x" ∷ []) 1 ≡ Spelled []
req_empty_list = refl

req_empty_list_twice : changed 7 (codes "req x x" ∷ []) 1 ≡ Grammar 8
req_empty_list_twice = refl

req_empty_list_last : changed 5 (codes "grid 1 1" ∷ codes "obs -" ∷ codes "req 0:00 x" ∷ []) 3 ≡ Grammar 8
req_empty_list_last = refl

req_prefix_first : changed 5 (codes "grid 2 1" ∷ codes "obs -" ∷ codes "req 0:00 0:00|0:10" ∷ []) 3 ≡ Spelled []
req_prefix_first = refl

req_prefix_last : changed 5 (codes "grid 2 1" ∷ codes "obs -" ∷ codes "req 0:00|0:10 0:00" ∷ []) 3 ≡ Grammar 8
req_prefix_last = refl

req_members_descend : changed 5 (codes "grid 2 1" ∷ codes "obs -" ∷ codes "req 0:10|0:00" ∷ []) 3 ≡ Grammar 8
req_members_descend = refl

req_bar_alone : changed 5 (codes "grid 1 1" ∷ codes "obs -" ∷ codes "req 0:00|" ∷ []) 3 ≡ Grammar 8
req_bar_alone = refl

insert_e : changed 8 (codes "rule insert e" ∷ codes "to 0 -" ∷ codes "to 0 -" ∷ []) 1 ≡ Spelled []
insert_e = refl

insert_one_child : changed 8 (codes "rule insert e" ∷ codes "to 0 -" ∷ []) 1 ≡ Grammar 11
insert_one_child = refl

insert_three_children : changed 8 (codes "rule insert e" ∷ codes "to 0 -" ∷ codes "to 0 -" ∷ codes "to 0 -" ∷ []) 1 ≡ Grammar 12
insert_three_children = refl

insert_cell_8 : changed 8 (codes "rule insert 0:80" ∷ codes "to 0 -" ∷ codes "to 0 -" ∷ []) 1 ≡ Limit 9
insert_cell_8 = refl

insert_ten_letters : changed 8 (codes "rule insert 0123456789:00.00.00.00.00.00.00.00.00.00" ∷ codes "to 0 -" ∷ codes "to 0 -" ∷ []) 1 ≡ Limit 9
insert_ten_letters = refl

insert_two_patterns : changed 8 (codes "rule insert 0:00 0:10" ∷ codes "to 0 -" ∷ codes "to 0 -" ∷ []) 1 ≡ Grammar 9
insert_two_patterns = refl

place_none : changed 8 (codes "rule place N" ∷ codes "to 0 -" ∷ []) 1 ≡ Limit 9
place_none = refl

place_none_no_child : changed 8 (codes "rule place N" ∷ []) 1 ≡ Grammar 10
place_none_no_child = refl

place_e : changed 8 (codes "rule place N e^0" ∷ codes "to 0 -" ∷ codes "to 0 -" ∷ []) 1 ≡ Grammar 9
place_e = refl

place_index_past : changed 8 (codes "rule place N 0:00^1" ∷ codes "to 0 -" ∷ codes "to 0 -" ∷ []) 1 ≡ Grammar 9
place_index_past = refl

place_index_9 : changed 8 (codes "rule place N 0123456789:00.00.00.00.00.00.00.00.00.00^9" ∷ codes "to 0 -" ∷ codes "to 0 -" ∷ []) 1 ≡ Limit 9
place_index_9 = refl

place_other_letter : changed 8 (codes "rule place X 0:00^0" ∷ codes "to 0 -" ∷ codes "to 0 -" ∷ []) 1 ≡ Grammar 9
place_other_letter = refl

place_repeats : changed 8 (codes "rule place N 0:00^0 0:00^0" ∷ codes "to 0 -" ∷ codes "to 0 -" ∷ codes "to 0 -" ∷ []) 1 ≡ Spelled []
place_repeats = refl

place_65 : changed 8 (((codes "rule place N" ++ repeat 65 (codes " 0:00^0")) ∷ []) ++ (repeat 66 (codes "to 0 -" ∷ []))) 1 ≡ Limit 9
place_65 = refl

rowcut_8 : changed 8 (codes "rule rowcut 8 00" ∷ codes "to 0 -" ∷ []) 1 ≡ Limit 9
rowcut_8 = refl

rowcut_39_digits : changed 8 (codes "rule rowcut 999999999999999999999999999999999999999 00" ∷ codes "to 0 -" ∷ []) 1 ≡ Limit 9
rowcut_39_digits = refl

rowcut_set_8 : changed 8 (codes "rule rowcut 0 80" ∷ codes "to 0 -" ∷ []) 1 ≡ Limit 9
rowcut_set_8 = refl

rowcut_no_set : changed 8 (codes "rule rowcut 0" ∷ codes "to 0 -" ∷ []) 1 ≡ Grammar 9
rowcut_no_set = refl

rowcut_empty_set : changed 8 (codes "rule rowcut 0 " ∷ codes "to 0 -" ∷ []) 1 ≡ Grammar 9
rowcut_empty_set = refl

set_descends : changed 8 (codes "rule rowcut 0 10.00" ∷ codes "to 0 -" ∷ []) 1 ≡ Grammar 9
set_descends = refl

factor_none : changed 8 (codes "rule factor" ∷ []) 1 ≡ Grammar 9
factor_none = refl

factor_one : changed 8 (codes "rule factor 00" ∷ codes "to 0 -" ∷ []) 1 ≡ Spelled []
factor_one = refl

factor_any_order : changed 8 (codes "rule factor 10 00" ∷ codes "to 0 -" ∷ codes "to 0 -" ∷ []) 1 ≡ Spelled []
factor_any_order = refl

factor_65 : changed 8 (((codes "rule factor" ++ repeat 65 (codes " 00")) ∷ []) ++ (repeat 65 (codes "to 0 -" ∷ []))) 1 ≡ Limit 9
factor_65 = refl

infer_none : changed 8 (codes "rule infer" ∷ codes "to 0 -" ∷ []) 1 ≡ Grammar 9
infer_none = refl

infer_descends : changed 8 (codes "rule infer 0:10 0:00" ∷ codes "to 0 -" ∷ []) 1 ≡ Grammar 9
infer_descends = refl

infer_many : changed 8 (codes "rule infer 0:00 0:01 0:02 0:03 0:04 0:05 0:06 0:07 0:10 0:11 0:12 0:13 0:14 0:15 0:16 0:17 0:20 0:21 0:22 0:23 0:24 0:25 0:26 0:27 0:30 0:31 0:32 0:33 0:34 0:35 0:36 0:37 0:40 0:41 0:42 0:43 0:44 0:45 0:46 0:47 0:50 0:51 0:52 0:53 0:54 0:55 0:56 0:57 0:60 0:61 0:62 0:63 0:64 0:65 0:66 0:67 0:70 0:71 0:72 0:73 0:74 0:75 0:76 0:77 01:00.00" ∷ codes "to 0 -" ∷ []) 1 ≡ Spelled []
infer_many = refl

unit_with_item : changed 8 (codes "rule unit 0:00" ∷ []) 1 ≡ Grammar 9
unit_with_item = refl

to_n : changed 8 (codes "rule insert e" ∷ codes "to 0 -" ∷ codes "to 1 -" ∷ []) 1 ≡ Limit 11
to_n = refl

to_39_digits : changed 8 (codes "rule insert e" ∷ codes "to 999999999999999999999999999999999999999 -" ∷ codes "to 0 -" ∷ []) 1 ≡ Limit 10
to_39_digits = refl

to_no_trace : changed 8 (codes "rule insert e" ∷ codes "to 0" ∷ codes "to 0 -" ∷ []) 1 ≡ Grammar 10
to_no_trace = refl

terms_none : changed 9 (codes "terms" ∷ []) 1 ≡ Grammar 10
terms_none = refl

terms_big_alone : changed 9 (codes "terms big" ∷ []) 1 ≡ Spelled []
terms_big_alone = refl

terms_big_first : changed 9 (codes "terms big 1" ∷ []) 1 ≡ Grammar 10
terms_big_first = refl

terms_largest : changed 9 (codes "terms 340282366920938463463374607431768211455" ∷ []) 1 ≡ Spelled []
terms_largest = refl

terms_2_128 : changed 9 (codes "terms 340282366920938463463374607431768211456" ∷ []) 1 ≡ Limit 10
terms_2_128 = refl

terms_201 : changed 9 ((codes "terms" ++ repeat 201 (codes " 0")) ∷ []) 1 ≡ Spelled []
terms_201 = refl

terms_202 : changed 9 ((codes "terms" ++ repeat 202 (codes " 0")) ∷ []) 1 ≡ Limit 10
terms_202 = refl

words_33 : changed 1 (codes "basis 01234,01243,01324,01342,01423,01432,02134,02143,02314,02341,02413,02431,03124,03142,03214,03241,03412,03421,04123,04132,04213,04231,04312,04321,10234,10243,10324,10342,10423,10432,12034,12043,12304" ∷ []) 1 ≡ Limit 2
words_33 = refl

words_32 : changed 1 (codes "basis 01234,01243,01324,01342,01423,01432,02134,02143,02314,02341,02413,02431,03124,03142,03214,03241,03412,03421,04123,04132,04213,04231,04312,04321,10234,10243,10324,10342,10423,10432,12034,12043" ∷ []) 1 ≡ Spelled []
words_32 = refl
