-- Each line of the form is read from its text.
use Rattle.std.proofs.Common.{◌≡◌, ◌+◌, ℕ, Bool, true, cond, List, [], ◌∷◌, ◌++◌, length, map, refl, ap, sym, ◌∙◌, true≢false}
use Rattle.std.specs.Prelude.{◌&&◌, not, nat_eq, nat_lt, Option, Some, None, option_map, option_and_then, codes, decimal}
use Rattle.std.specs.List.{list_all}
use Rattle.std.specs.Cmp.{first_so, second_so}
use Rattle.std.specs.Cmp.Lexicographic.{slice_cmp}
use Rattle.std.proofs.lemmas.Bool.{and_from}
use Rattle.std.proofs.lemmas.List.{append_cancel_right}
use Rattle.perm_core.specs.Orders.{perm_cmp}
use Rattle.gridded.specs.declared.cell.Cell.{Cell}
use Rattle.gridded.specs.Grids.{Point}
use Rattle.gridded.specs.Orders.{cell_cmp, gridded_cmp}
use Rattle.steps.specs.declared.step.Step.{Step}
use Rattle.steps.specs.declared.step.Step.TheVariants as steps
use Rattle.css_terms.specs.declared.term.Term.{Term}
use Rattle.css_terms.specs.declared.term.Term.TheVariants.{Exact, Big}
use Rattle.rule_kinds.specs.Pointeds.{PointedPattern}
use Rattle.rule_kinds.specs.declared.kind.Direction.{Direction}
use Rattle.rule_kinds.specs.declared.kind.Direction.TheVariants.{North, South, East, West}
use Rattle.rule_kinds.specs.declared.kind.Kind.{Kind}
use Rattle.rule_kinds.specs.declared.kind.Kind.TheVariants as kind
use Rattle.spec_lines.specs.Lines.{Text, separated, line, or_dash}
use Rattle.spec_lines.specs.Patterns.{word_text, cell_text, cells_text, pattern_text, list_text}
use Rattle.spec_lines.specs.Traces.{step_text, trace_items}
use Rattle.spec_lines.specs.Kinds.{direction_text, pointed_text, kind_word, kind_items}
use Rattle.spec_lines.specs.Terms.{term_text}
use Rattle.spec_lines.specs.Forms.{Line, line_text, is_line, has_items, ascending, is_number, is_digit, is_word, is_cell, is_pattern, is_patterns, is_step, is_set, is_pointed, is_kind, are_terms}
use Rattle.spec_lines.specs.Forms.Line.{First, Basis, Root, Count, Entry, Grid, Obstructions, Requirements, Rule, Child, Terms, End}
use Rattle.spec_lines.specs.Follows.{Place, stands_at}
use Rattle.spec_lines.specs.Follows.Place.{AtFirst, AtBasis, AtRoot, AtCount, AtEntry, AtGrid, AtObstructions, AtRequirements, AtRule, AtChild, AtTerms, AtEnd}
use Rattle.spec_lines.specs.Items.{items, keep_if, read_all, same, dashed, behind}
use Rattle.spec_lines.specs.Readings.{number_at, word_at, pattern_at, list_at, step_at, kind_at, term_at, terms_at, basis_of, count_of, entry_of, grid_of, child_of, value_at, line_at}
use Rattle.spec_lines.proofs.Taking.{all_again, differs}
use Rattle.spec_lines.proofs.Bytes.{is_free, is_dark, no_digit, all_append, all_separated, digits_are_dark, digit_is_dark, darks_are_free}
use Rattle.spec_lines.proofs.Items.{items_joined}
use Rattle.spec_lines.proofs.NumberSpelling.{decimal_digits}
use Rattle.spec_lines.proofs.PatternSpelling.{Passes, cells_pass, word_passes, word_again, pattern_again, pattern_passes, is_digit_of, at_most_nine}
use Rattle.spec_lines.proofs.AgainSpelling.{each_pattern_passes, one_digit, step_again, list_again, term_again, is_term, each_is_term, below_39_digits, number_read, pointed_digit, kind_again}

-- ====== no item has a blank ======
dark_patterns : Passes (λ b. nat_lt 32 b)
dark_patterns = record { digit = digit_is_dark; dot = refl; colon = refl; e = refl }

number_dark : (n : ℕ) → is_number n ≡ true → is_dark (decimal n) ≡ true
number_dark n h = digits_are_dark (decimal n) (decimal_digits n (below_39_digits n h))

-- where each item is dark, all are
each_dark : {X : Type 0} (text : X → Text) (good : X → Bool) → ((x : X) → good x ≡ true → is_dark (text x) ≡ true) → (xs : List X) → list_all good xs ≡ true → list_all is_dark (map text xs) ≡ true
each_dark text good dark [] h = refl
each_dark text good dark (x ∷ xs) h = and_from (is_dark (text x)) (list_all is_dark (map text xs)) (dark x (first_so (good x) (list_all good xs) h)) (each_dark text good dark xs (second_so (good x) (list_all good xs) h))

digit_dark : (x : ℕ) → is_digit x ≡ true → is_dark (decimal x) ≡ true
digit_dark x h = ap is_dark (one_digit x h) ∙ ap (λ b. b && true) (digit_is_dark (48 + x) (is_digit_of x (at_most_nine x h)))

cell_dark : (c : Cell) → is_cell c ≡ true → is_dark (cell_text c) ≡ true
cell_dark c h = all_append (λ b. nat_lt 32 b) (decimal c.x) (decimal c.y) (digit_dark c.x (first_so (is_digit c.x) (is_digit c.y) h)) (digit_dark c.y (second_so (is_digit c.x) (is_digit c.y) h))

step_dark : (s : Step) → is_step s ≡ true → is_dark (step_text s) ≡ true
step_dark steps.Void h = refl
step_dark steps.Min h = refl
step_dark steps.Lists h = refl
step_dark (steps.Column x) h = digit_dark x h
step_dark (steps.Row y) h = digit_dark y h
step_dark (steps.Clean c) h = cell_dark c h

word_dark : (w : List ℕ) → is_word w ≡ true → is_dark (word_text w) ≡ true
word_dark w h = word_passes (λ b. nat_lt 32 b) digit_is_dark w h

pattern_dark : (g : List Point) → is_pattern g ≡ true → is_dark (pattern_text g) ≡ true
pattern_dark g h = pattern_passes (λ b. nat_lt 32 b) dark_patterns g h

list_dark : (gs : List (List Point)) → is_patterns gs ≡ true → is_dark (list_text gs) ≡ true
list_dark [] h = refl
list_dark (g ∷ gs) h = all_separated (λ b. nat_lt 32 b) 124 (map pattern_text (g ∷ gs)) refl (each_pattern_passes (λ b. nat_lt 32 b) dark_patterns (g ∷ gs) (first_so (list_all is_pattern (g ∷ gs)) (ascending gridded_cmp (g ∷ gs)) h))

term_dark : (x : Term) → is_term x ≡ true → is_dark (term_text x) ≡ true
term_dark Big h = refl
term_dark (Exact n) h = number_dark n h

set_dark : (cells : List Cell) → is_set cells ≡ true → is_dark (cells_text cells) ≡ true
set_dark cells h = cells_pass (λ b. nat_lt 32 b) digit_is_dark refl cells (second_so (has_items cells) (list_all is_cell cells) (first_so (has_items cells && list_all is_cell cells) (ascending cell_cmp cells) h))

direction_dark : (d : Direction) → is_dark (direction_text d) ≡ true
direction_dark North = refl
direction_dark South = refl
direction_dark East = refl
direction_dark West = refl

pointed_dark : (q : PointedPattern) → is_pointed q ≡ true → is_dark (pointed_text q) ≡ true
pointed_dark q h =
    let front = all_append (λ b. nat_lt 32 b) (pattern_text q.pattern) (codes "^") (pattern_dark q.pattern (first_so (is_pattern q.pattern) (nat_lt q.index (length q.pattern)) h)) refl in
    all_append (λ b. nat_lt 32 b) (pattern_text q.pattern ++ codes "^") (decimal q.index) front (digit_dark q.index (pointed_digit q h))

cut_dark : (y : ℕ) (set : List Cell) → is_number y && is_set set ≡ true → list_all is_dark (decimal y ∷ cells_text set ∷ []) ≡ true
cut_dark y set h = and_from (is_dark (decimal y)) (is_dark (cells_text set) && true) (number_dark y (first_so (is_number y) (is_set set) h)) (ap (λ b. b && true) (set_dark set (second_so (is_number y) (is_set set) h)))

kind_dark : (k : Kind) → is_kind k ≡ true → list_all is_dark (kind_word k ∷ kind_items k) ≡ true
kind_dark kind.Unit h = refl
kind_dark kind.Point h = refl
kind_dark kind.Void h = refl
kind_dark (kind.Insert r) h = ap (λ b. b && true) (pattern_dark r h)
kind_dark (kind.Place qs d) h = and_from (is_dark (direction_text d)) (list_all is_dark (map pointed_text qs)) (direction_dark d) (each_dark pointed_text is_pointed pointed_dark qs h)
kind_dark (kind.RowCut y set) h = cut_dark y set h
kind_dark (kind.ColumnCut x set) h = cut_dark x set h
kind_dark (kind.Factor sets) h = each_dark cells_text is_set set_dark sets (second_so (has_items sets) (list_all is_set sets) h)
kind_dark (kind.Infer gs) h = each_dark pattern_text is_pattern pattern_dark gs (first_so (list_all is_pattern gs) (ascending gridded_cmp gs) (second_so (has_items gs) (is_patterns gs) h))

dashed_dark : (ts : List Text) → list_all is_dark ts ≡ true → list_all is_dark (or_dash ts) ≡ true
dashed_dark [] h = refl
dashed_dark (t ∷ ts) h = h

trace_dark : (trace : List Step) → list_all is_step trace ≡ true → list_all is_dark (trace_items trace) ≡ true
trace_dark trace h = dashed_dark (map step_text trace) (each_dark step_text is_step step_dark trace h)

-- ====== the items of lines ======
-- the word of a line, and its items
abbrev pub line_parts : Line → List Text
line_parts First = codes "tilescope" ∷ codes "1" ∷ []
line_parts (Basis words) = codes "basis" ∷ separated 44 (map word_text words) ∷ []
line_parts (Root trace) = codes "root" ∷ trace_items trace
line_parts (Count entries) = codes "entries" ∷ decimal entries ∷ []
line_parts (Entry number rank) = codes "entry" ∷ decimal number ∷ codes "rank" ∷ decimal rank ∷ []
line_parts (Grid width height) = codes "grid" ∷ decimal width ∷ decimal height ∷ []
line_parts (Obstructions patterns) = codes "obs" ∷ or_dash (map pattern_text patterns)
line_parts (Requirements lists) = codes "req" ∷ or_dash (map list_text lists)
line_parts (Rule k) = codes "rule" ∷ kind_word k ∷ kind_items k
line_parts (Child child trace) = codes "to" ∷ decimal child ∷ trace_items trace
line_parts (Terms terms) = codes "terms" ∷ map term_text terms
line_parts End = codes "end" ∷ []

parts_dark : (l : Line) → is_line l ≡ true → list_all is_dark (line_parts l) ≡ true
parts_dark First h = refl
parts_dark (Basis words) h =
    let each = second_so (has_items words) (list_all is_word words) (first_so (has_items words && list_all is_word words) (ascending perm_cmp words) h) in
    ap (λ b. b && true) (all_separated (λ b. nat_lt 32 b) 44 (map word_text words) refl (each_dark word_text is_word word_dark words each))
parts_dark (Root trace) h = trace_dark trace h
parts_dark (Count entries) h = ap (λ b. b && true) (number_dark entries h)
parts_dark (Entry number rank) h = and_from (is_dark (decimal number)) (is_dark (decimal rank) && true) (number_dark number (first_so (is_number number) (is_number rank) h)) (ap (λ b. b && true) (number_dark rank (second_so (is_number number) (is_number rank) h)))
parts_dark (Grid width height) h = and_from (is_dark (decimal width)) (is_dark (decimal height) && true) (number_dark width (first_so (is_number width) (is_number height) h)) (ap (λ b. b && true) (number_dark height (second_so (is_number width) (is_number height) h)))
parts_dark (Obstructions patterns) h = dashed_dark (map pattern_text patterns) (each_dark pattern_text is_pattern pattern_dark patterns (first_so (list_all is_pattern patterns) (ascending gridded_cmp patterns) h))
parts_dark (Requirements lists) h = dashed_dark (map list_text lists) (each_dark list_text is_patterns list_dark lists (first_so (list_all is_patterns lists) (ascending (slice_cmp gridded_cmp) lists) h))
parts_dark (Rule k) h = kind_dark k h
parts_dark (Child child trace) h = and_from (is_dark (decimal child)) (list_all is_dark (trace_items trace)) (number_dark child (first_so (is_number child) (list_all is_step trace) h)) (trace_dark trace (second_so (is_number child) (list_all is_step trace) h))
parts_dark (Terms terms) h = each_dark term_text is_term term_dark terms (each_is_term terms (second_so (has_items terms) (are_terms terms) h))
parts_dark End h = refl

-- a word and items with a blank before each, and the line feed
line_is : (word : Text) (ts : List Text) → line word ts ≡ separated 32 (word ∷ ts) ++ codes "\n"
line_is word ts = refl

pub parts_text : (l : Line) → line_text l ≡ separated 32 (line_parts l) ++ codes "\n"
parts_text First = refl
parts_text (Basis words) = refl
parts_text (Root trace) = refl
parts_text (Count entries) = refl
parts_text (Entry number rank) = refl
parts_text (Grid width height) = refl
parts_text (Obstructions patterns) = refl
parts_text (Requirements lists) = refl
parts_text (Rule k) = refl
parts_text (Child child trace) = refl
parts_text (Terms terms) = refl
parts_text End = refl

cut_into : (parts : List Text) → has_items parts ≡ true → list_all is_dark parts ≡ true → items 32 (separated 32 parts) ≡ parts
cut_into [] there h = absurd (true≢false (sym there))
cut_into (t ∷ ts) there h =
    let free = darks_are_free 32 (t ∷ ts) refl h in
    items_joined 32 t ts (first_so (is_free 32 t) (list_all (is_free 32) ts) free) (second_so (is_free 32 t) (list_all (is_free 32) ts) free)

has_parts : (l : Line) → has_items (line_parts l) ≡ true
has_parts First = refl
has_parts (Basis words) = refl
has_parts (Root trace) = refl
has_parts (Count entries) = refl
has_parts (Entry number rank) = refl
has_parts (Grid width height) = refl
has_parts (Obstructions patterns) = refl
has_parts (Requirements lists) = refl
has_parts (Rule k) = refl
has_parts (Child child trace) = refl
has_parts (Terms terms) = refl
has_parts End = refl

-- a line's text without its line feed
pub line_body : (t : Text) (l : Line) → t ++ codes "\n" ≡ line_text l → t ≡ separated 32 (line_parts l)
line_body t l h = append_cancel_right t (separated 32 (line_parts l)) (codes "\n") (h ∙ parts_text l)

-- it has no line feed
pub body_is_free : (t : Text) (l : Line) → is_line l ≡ true → t ++ codes "\n" ≡ line_text l → is_free 10 t ≡ true
body_is_free t l form h = ap (is_free 10) (line_body t l h) ∙ all_separated (λ b. not (nat_eq b 10)) 32 (line_parts l) refl (darks_are_free 10 (line_parts l) refl (parts_dark l form))

line_items : (t : Text) (l : Line) → is_line l ≡ true → t ++ codes "\n" ≡ line_text l → items 32 t ≡ line_parts l
line_items t l form h = ap (items 32) (line_body t l h) ∙ cut_into (line_parts l) (has_parts l) (parts_dark l form)

-- ====== values ======
-- items that aren't a dash, or a dash where there is none
dash_again : {X : Type 0} (read : Text → Option X) (text : X → Text) (good : X → Bool) → ((x : X) → good x ≡ true → read (text x) ≡ Some x) → read (codes "-") ≡ None → (xs : List X) → list_all good xs ≡ true → dashed read (or_dash (map text xs)) ≡ Some xs
dash_again read text good again none [] h = refl
dash_again read text good again none (x ∷ xs) h =
    let first = again x (first_so (good x) (list_all good xs) h) in
    ap (λ b. cond (b && not (has_items (map text xs))) (Some []) (read_all read (map text (x ∷ xs)))) (differs read (text x) (codes "-") x first none)
    ∙ all_again read text good again (x ∷ xs) h

trace_again : (trace : List Step) → list_all is_step trace ≡ true → dashed step_at (trace_items trace) ≡ Some trace
trace_again trace h = dash_again step_at step_text is_step step_again refl trace h

words_again : (words : List (List ℕ)) → has_items words ≡ true → list_all is_word words ≡ true → read_all word_at (items 44 (separated 44 (map word_text words))) ≡ Some words
words_again [] there h = absurd (true≢false (sym there))
words_again (w ∷ words) there h =
    let free : (v : List ℕ) → is_word v ≡ true → is_free 44 (word_text v) ≡ true = λ v good. word_passes (λ b. not (nat_eq b 44)) (λ b digit. no_digit b 44 refl digit) v good in
    let first = free w (first_so (is_word w) (list_all is_word words) h) in
    ap (read_all word_at) (items_joined 44 (word_text w) (map word_text words) first (each_free free words (second_so (is_word w) (list_all is_word words) h)))
    ∙ all_again word_at word_text is_word word_again (w ∷ words) h
  where
    each_free : ((v : List ℕ) → is_word v ≡ true → is_free 44 (word_text v) ≡ true) → (vs : List (List ℕ)) → list_all is_word vs ≡ true → list_all (is_free 44) (map word_text vs) ≡ true
    each_free free [] h = refl
    each_free free (v ∷ vs) h = and_from (is_free 44 (word_text v)) (list_all (is_free 44) (map word_text vs)) (free v (first_so (is_word v) (list_all is_word vs) h)) (each_free free vs (second_so (is_word v) (list_all is_word vs) h))

basis_again : (words : List (List ℕ)) → is_line (Basis words) ≡ true → basis_of (separated 44 (map word_text words) ∷ []) ≡ Some (Basis words)
basis_again words h =
    let both = first_so (has_items words && list_all is_word words) (ascending perm_cmp words) h in
    ap (option_map Basis) (words_again words (first_so (has_items words) (list_all is_word words) both) (second_so (has_items words) (list_all is_word words) both))

entry_again : (number rank : ℕ) → is_number number && is_number rank ≡ true → entry_of (decimal number ∷ codes "rank" ∷ decimal rank ∷ []) ≡ Some (Entry number rank)
entry_again number rank h =
    ap (option_and_then (λ n. option_and_then (λ r. cond (same (codes "rank") (codes "rank")) (Some (Entry n r)) None) (number_at (decimal rank)))) (number_read number (first_so (is_number number) (is_number rank) h))
    ∙ ap (option_and_then (λ r. cond (same (codes "rank") (codes "rank")) (Some (Entry number r)) None)) (number_read rank (second_so (is_number number) (is_number rank) h))

grid_again : (width height : ℕ) → is_number width && is_number height ≡ true → grid_of (decimal width ∷ decimal height ∷ []) ≡ Some (Grid width height)
grid_again width height h =
    ap (option_and_then (λ w. option_map (λ u. Grid w u) (number_at (decimal height)))) (number_read width (first_so (is_number width) (is_number height) h))
    ∙ ap (option_map (λ u. Grid width u)) (number_read height (second_so (is_number width) (is_number height) h))

child_again : (child : ℕ) (trace : List Step) → is_number child && list_all is_step trace ≡ true → child_of (decimal child ∷ trace_items trace) ≡ Some (Child child trace)
child_again child trace h =
    ap (option_and_then (λ c. option_map (Child c) (dashed step_at (trace_items trace)))) (number_read child (first_so (is_number child) (list_all is_step trace) h))
    ∙ ap (option_map (Child child)) (trace_again trace (second_so (is_number child) (list_all is_step trace) h))

terms_again : (terms : List Term) → has_items terms && are_terms terms ≡ true → terms_at (map term_text terms) ≡ Some terms
terms_again terms h = all_again term_at term_text is_term term_again terms (each_is_term terms (second_so (has_items terms) (are_terms terms) h))

whole_line : (t word : Text) (l : Line) → t ≡ word → same word word ≡ true → cond (same t word) (Some l) None ≡ Some l
whole_line t word l e h = ap (λ u. cond (same u word) (Some l) None) e ∙ ap (λ b. cond b (Some l) None) h

-- what stands in a line of the form is its value
pub value_again : (p : Place) (t : Text) (l : Line) → stands_at p l ≡ true → is_line l ≡ true → t ++ codes "\n" ≡ line_text l → value_at p t ≡ Some l
value_again AtFirst t First there form h = whole_line t (codes "tilescope 1") First (line_body t First h) refl
value_again AtBasis t (Basis words) there form h = ap (λ ts. option_and_then basis_of (behind (codes "basis") ts)) (line_items t (Basis words) form h) ∙ basis_again words form
value_again AtRoot t (Root trace) there form h = ap (λ ts. option_and_then (λ us. option_map Root (dashed step_at us)) (behind (codes "root") ts)) (line_items t (Root trace) form h) ∙ ap (option_map Root) (trace_again trace form)
value_again AtCount t (Count entries) there form h = ap (λ ts. option_and_then count_of (behind (codes "entries") ts)) (line_items t (Count entries) form h) ∙ ap (option_map Count) (number_read entries form)
value_again (AtEntry i left) t (Entry number rank) there form h = ap (λ ts. option_and_then entry_of (behind (codes "entry") ts)) (line_items t (Entry number rank) form h) ∙ entry_again number rank form
value_again (AtGrid i left) t (Grid width height) there form h = ap (λ ts. option_and_then grid_of (behind (codes "grid") ts)) (line_items t (Grid width height) form h) ∙ grid_again width height form
value_again (AtObstructions i left) t (Obstructions patterns) there form h =
    ap (λ ts. option_and_then (λ us. option_map Obstructions (dashed pattern_at us)) (behind (codes "obs") ts)) (line_items t (Obstructions patterns) form h)
    ∙ ap (option_map Obstructions) (dash_again pattern_at pattern_text is_pattern pattern_again refl patterns (first_so (list_all is_pattern patterns) (ascending gridded_cmp patterns) form))
value_again (AtRequirements i left) t (Requirements lists) there form h =
    ap (λ ts. option_and_then (λ us. option_map Requirements (dashed list_at us)) (behind (codes "req") ts)) (line_items t (Requirements lists) form h)
    ∙ ap (option_map Requirements) (dash_again list_at list_text is_patterns list_again refl lists (first_so (list_all is_patterns lists) (ascending (slice_cmp gridded_cmp) lists) form))
value_again (AtRule i left) t (Rule k) there form h = ap (λ ts. option_and_then (λ us. option_map Rule (kind_at us)) (behind (codes "rule") ts)) (line_items t (Rule k) form h) ∙ ap (option_map Rule) (kind_again k form)
value_again (AtChild i left more) t (Child child trace) there form h = ap (λ ts. option_and_then child_of (behind (codes "to") ts)) (line_items t (Child child trace) form h) ∙ child_again child trace form
value_again AtTerms t (Terms terms) there form h = ap (λ ts. option_and_then (λ us. option_map Terms (terms_at us)) (behind (codes "terms") ts)) (line_items t (Terms terms) form h) ∙ ap (option_map Terms) (terms_again terms form)
value_again AtEnd t End there form h = whole_line t (codes "end") End (line_body t End h) refl
value_again p t l there form h = absurd (true≢false (sym there))

pub line_again : (p : Place) (t : Text) (l : Line) → stands_at p l ≡ true → is_line l ≡ true → t ++ codes "\n" ≡ line_text l → line_at p t ≡ Some l
line_again p t l there form h = ap (option_and_then (λ m. keep_if (is_line m) m)) (value_again p t l there form h) ∙ ap (λ b. keep_if b l) form
