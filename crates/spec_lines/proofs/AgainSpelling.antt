-- Steps, sets, lists, terms, pointed patterns and kinds are read from their texts.
use Rattle.std.proofs.Common.{◌≡◌, ◌<◌, ◌+◌, ◌^◌, ℕ, Bool, true, false, cond, List, [], ◌∷◌, ◌++◌, length, map, refl, ap, sym, ◌∙◌, true≢false, arith}
use Rattle.std.specs.Prelude.{◌&&◌, not, nat_eq, nat_lt, Some, option_map, option_and_then, codes, decimal}
use Rattle.std.specs.List.{list_all}
use Rattle.std.specs.Cmp.{first_so, second_so}
use Rattle.std.proofs.lemmas.Bool.{and_from}
use Rattle.std.proofs.lemmas.Grind.{common_steps}
use Rattle.std.proofs.lemmas.Fmt.{decimal_digit}
use Rattle.gridded.specs.declared.cell.Cell.{Cell}
use Rattle.gridded.specs.Grids.{Point}
use Rattle.gridded.specs.Orders.{cell_cmp, gridded_cmp}
use Rattle.steps.specs.declared.step.Step.{Step}
use Rattle.steps.specs.declared.step.Step.TheVariants as steps
use Rattle.css_terms.specs.declared.term.Term.{Term}
use Rattle.css_terms.specs.declared.term.Term.TheVariants.{Exact, Big}
use Rattle.rule_kinds.specs.Pointeds.{PointedPattern}
use Rattle.rule_kinds.specs.declared.kind.Direction.{Direction}
use Rattle.rule_kinds.specs.declared.kind.Direction.TheVariants.{North, South, East, West}
use Rattle.rule_kinds.specs.declared.kind.Kind.{Kind}
use Rattle.rule_kinds.specs.declared.kind.Kind.TheVariants as kind
use Rattle.spec_lines.specs.Patterns.{cell_text, cells_text, pattern_text, list_text}
use Rattle.spec_lines.specs.Traces.{step_text}
use Rattle.spec_lines.specs.Kinds.{direction_text, pointed_text, kind_word, kind_items}
use Rattle.spec_lines.specs.Terms.{term_text}
use Rattle.spec_lines.specs.Forms.{has_items, ascending, is_number, is_digit, is_cell, is_pattern, is_patterns, is_step, is_set, is_pointed, is_kind, are_terms}
use Rattle.spec_lines.specs.Items.{items, read_all}
use Rattle.spec_lines.specs.Readings.{is_digit_byte, digit_at, number_at, cell_at, pattern_at, list_at, set_at, step_at, term_at, direction_at, pointed_of, pointed_at, kind_at, place_at, cut_at}
use Rattle.spec_lines.proofs.Taking.{all_again, differs}
use Rattle.spec_lines.proofs.Bytes.{is_free, no_digit}
use Rattle.spec_lines.proofs.Items.{items_joined, joined_two}
use Rattle.spec_lines.proofs.NumberSpelling.{number_again}
use Rattle.spec_lines.proofs.PatternSpelling.{cell_again, cell_passes, digit_again, is_digit_of, at_most_nine, two_digits, pattern_again, pattern_passes, Passes, at_most_ten}

-- ====== sets and steps ======
cells_again : (cells : List Cell) → has_items cells ≡ true → list_all is_cell cells ≡ true → set_at (cells_text cells) ≡ Some cells
cells_again [] there h = absurd (true≢false (sym there))
cells_again (c ∷ cells) there h =
    let free = cell_passes (λ b. not (nat_eq b 46)) (λ b digit. no_digit b 46 refl digit) (c ∷ cells) h in
    let cut = items_joined 46 (cell_text c) (map cell_text cells) (first_so (is_free 46 (cell_text c)) (list_all (is_free 46) (map cell_text cells)) free) (second_so (is_free 46 (cell_text c)) (list_all (is_free 46) (map cell_text cells)) free) in
    ap (read_all cell_at) cut ∙ all_again cell_at cell_text is_cell cell_again (c ∷ cells) h

pub set_again : (cells : List Cell) → is_set cells ≡ true → set_at (cells_text cells) ≡ Some cells
set_again cells h =
    let both = first_so (has_items cells && list_all is_cell cells) (ascending cell_cmp cells) h in
    cells_again cells (first_so (has_items cells) (list_all is_cell cells) both) (second_so (has_items cells) (list_all is_cell cells) both)

pub one_digit : (x : ℕ) → is_digit x ≡ true → decimal x ≡ (48 + x) ∷ []
one_digit x h = decimal_digit x (let small = at_most_nine x h in omega (arith, small))

pub step_again : (s : Step) → is_step s ≡ true → step_at (step_text s) ≡ Some s
step_again steps.Void h = refl
step_again steps.Min h = refl
step_again steps.Lists h = refl
step_again (steps.Column x) h = ap (λ t. step_at (67 ∷ t)) (one_digit x h) ∙ ap (option_and_then (λ x. Some (steps.Column x))) (digit_again x (at_most_nine x h))
step_again (steps.Row y) h = ap (λ t. step_at (82 ∷ t)) (one_digit y h) ∙ ap (option_and_then (λ y. Some (steps.Row y))) (digit_again y (at_most_nine y h))
step_again (steps.Clean c) h = ap (λ t. step_at (75 ∷ t)) (two_digits c h) ∙ ap (λ t. option_map steps.Clean (cell_at t)) (sym (two_digits c h)) ∙ ap (option_map steps.Clean) (cell_again c h)

-- ====== lists ======
-- a byte that patterns don't have
pub lacks : (byte : ℕ) → is_digit_byte byte ≡ false → not (nat_eq 46 byte) ≡ true → not (nat_eq 58 byte) ≡ true → not (nat_eq 101 byte) ≡ true → Passes (λ b. not (nat_eq b byte))
lacks byte other dot colon e = record { digit = λ b digit. no_digit b byte other digit; dot = dot; colon = colon; e = e }

pub each_pattern_passes : (f : ℕ → Bool) → Passes f → (gs : List (List Point)) → list_all is_pattern gs ≡ true → list_all (list_all f) (map pattern_text gs) ≡ true
each_pattern_passes f each [] h = refl
each_pattern_passes f each (g ∷ gs) h = and_from (list_all f (pattern_text g)) (list_all (list_all f) (map pattern_text gs)) (pattern_passes f each g (first_so (is_pattern g) (list_all is_pattern gs) h)) (each_pattern_passes f each gs (second_so (is_pattern g) (list_all is_pattern gs) h))

by_bars : (g : List Point) (gs : List (List Point)) → list_all is_pattern (g ∷ gs) ≡ true → read_all pattern_at (items 124 (list_text (g ∷ gs))) ≡ Some (g ∷ gs)
by_bars g gs h =
    let free = each_pattern_passes (λ b. not (nat_eq b 124)) (lacks 124 refl refl refl refl) (g ∷ gs) h in
    let cut = items_joined 124 (pattern_text g) (map pattern_text gs) (first_so (is_free 124 (pattern_text g)) (list_all (is_free 124) (map pattern_text gs)) free) (second_so (is_free 124 (pattern_text g)) (list_all (is_free 124) (map pattern_text gs)) free) in
    ap (read_all pattern_at) cut ∙ all_again pattern_at pattern_text is_pattern pattern_again (g ∷ gs) h

pub list_again : (gs : List (List Point)) → is_patterns gs ≡ true → list_at (list_text gs) ≡ Some gs
list_again [] h = refl
list_again (g ∷ gs) h =
    let read = by_bars g gs (first_so (list_all is_pattern (g ∷ gs)) (ascending gridded_cmp (g ∷ gs)) h) in
    ap (λ b. cond b (Some []) (read_all pattern_at (items 124 (list_text (g ∷ gs))))) (differs (λ t. read_all pattern_at (items 124 t)) (list_text (g ∷ gs)) (codes "x") (g ∷ gs) read refl) ∙ read

-- ====== terms ======
abbrev pub is_term : Term → Bool
is_term (Exact n) = is_number n
is_term Big = true

pub below_39_digits : (n : ℕ) → is_number n ≡ true → n < 10 ^ 39
below_39_digits n h = grind (arith, common_steps, h)

pub number_read : (n : ℕ) → is_number n ≡ true → number_at (decimal n) ≡ Some n
number_read n h = number_again n (below_39_digits n h)

pub term_again : (x : Term) → is_term x ≡ true → term_at (term_text x) ≡ Some x
term_again Big h = refl
term_again (Exact n) h =
    let read = number_read n h in
    ap (λ b. cond b (Some Big) (option_map Exact (number_at (decimal n)))) (differs number_at (decimal n) (codes "big") n read refl) ∙ ap (option_map Exact) read

pub each_is_term : (terms : List Term) → are_terms terms ≡ true → list_all is_term terms ≡ true
each_is_term [] h = refl
each_is_term (Exact n ∷ terms) h = and_from (is_number n) (list_all is_term terms) (first_so (is_number n) (are_terms terms) h) (each_is_term terms (second_so (is_number n) (are_terms terms) h))
each_is_term (Big ∷ []) h = refl
each_is_term (Big ∷ x ∷ terms) h = absurd (true≢false (sym h))

-- ====== pointed patterns ======
pub direction_again : (d : Direction) → direction_at (direction_text d) ≡ Some d
direction_again North = refl
direction_again South = refl
direction_again East = refl
direction_again West = refl

pub pointed_digit : (q : PointedPattern) → is_pointed q ≡ true → is_digit q.index ≡ true
pointed_digit q h =
    let few = at_most_ten q.pattern (first_so (is_pattern q.pattern) (nat_lt q.index (length q.pattern)) h) in
    let below = second_so (is_pattern q.pattern) (nat_lt q.index (length q.pattern)) h in
    grind (arith, common_steps, few, below)

pub pointed_again : (q : PointedPattern) → is_pointed q ≡ true → pointed_at (pointed_text q) ≡ Some q
pointed_again q h =
    let g = q.pattern in
    let i = q.index in
    let pattern = first_so (is_pattern g) (nat_lt i (length g)) h in
    let digit = pointed_digit q h in
    let alone : decimal i ≡ (48 + i) ∷ [] = one_digit i digit in
    let small = at_most_nine i digit in
    let free = pattern_passes (λ b. not (nat_eq b 94)) (lacks 94 refl refl refl refl) g pattern in
    let index_free : list_all (is_free 94) (((48 + i) ∷ []) ∷ []) ≡ true = ap (λ b. b && true && true) (no_digit (48 + i) 94 refl (is_digit_of i small)) in
    ap (λ d. pointed_at (pattern_text g ++ codes "^" ++ d)) alone
    ∙ ap (λ t. pointed_of (items 94 t)) (joined_two 94 (pattern_text g) ((48 + i) ∷ []))
    ∙ ap pointed_of (items_joined 94 (pattern_text g) (((48 + i) ∷ []) ∷ []) free index_free)
    ∙ ap (option_and_then (λ pattern. option_map (λ index. record { pattern = pattern; index = index }) (digit_at (48 + i)))) (pattern_again g pattern)
    ∙ ap (option_map (λ index. record { pattern = g; index = index })) (digit_again i small)

-- ====== kinds ======
place_again : (qs : List PointedPattern) (d : Direction) → list_all is_pointed qs ≡ true → place_at (direction_text d ∷ map pointed_text qs) ≡ Some (kind.Place qs d)
place_again qs d h =
    ap (option_and_then (λ e. option_map (λ ps. kind.Place ps e) (read_all pointed_at (map pointed_text qs)))) (direction_again d)
    ∙ ap (option_map (λ ps. kind.Place ps d)) (all_again pointed_at pointed_text is_pointed pointed_again qs h)

cut_again : (cut : ℕ → List Cell → Kind) (y : ℕ) (set : List Cell) → is_number y && is_set set ≡ true → cut_at cut (decimal y ∷ cells_text set ∷ []) ≡ Some (cut y set)
cut_again cut y set h =
    ap (option_and_then (λ x. option_map (cut x) (set_at (cells_text set)))) (number_read y (first_so (is_number y) (is_set set) h))
    ∙ ap (option_map (cut y)) (set_again set (second_so (is_number y) (is_set set) h))

pub kind_again : (k : Kind) → is_kind k ≡ true → kind_at (kind_word k ∷ kind_items k) ≡ Some k
kind_again kind.Unit h = refl
kind_again kind.Point h = refl
kind_again kind.Void h = refl
kind_again (kind.Insert r) h = ap (option_map kind.Insert) (pattern_again r h)
kind_again (kind.Place qs d) h = place_again qs d h
kind_again (kind.RowCut y set) h = cut_again kind.RowCut y set h
kind_again (kind.ColumnCut x set) h = cut_again kind.ColumnCut x set h
kind_again (kind.Factor sets) h = ap (option_map kind.Factor) (all_again set_at cells_text is_set set_again sets (second_so (has_items sets) (list_all is_set sets) h))
kind_again (kind.Infer gs) h = ap (option_map kind.Infer) (all_again pattern_at pattern_text is_pattern pattern_again gs (first_so (list_all is_pattern gs) (ascending gridded_cmp gs) (second_so (has_items gs) (is_patterns gs) h)))
