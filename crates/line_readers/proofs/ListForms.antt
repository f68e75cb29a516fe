-- The lines of obstructions and requirements, by what their items are read as.
use Rattle.std.proofs.Common.{◌≡◌, ◌≤◌, ◌<◌, ℕ, suc, Bool, true, false, cond, List, [], ◌∷◌, length, map, refl, ap, sym, ◌∙◌, arith}
use Rattle.std.specs.Prelude.{◌&&◌, not, nat_lt, nat_le, nat_eq, codes, Option, Some, None, option_map, option_and_then}
use Rattle.std.specs.Cmp.{first_so, second_so}
use Rattle.std.specs.Cmp.Lexicographic.{slice_cmp}
use Rattle.std.specs.List.{list_all}
use Rattle.std.proofs.lemmas.Bool.Decides.{nat_tests}
use Rattle.std.proofs.lemmas.Grind.{common_steps}
use Rattle.std.proofs.lemmas.Option.{none-some, same_Some}
use Rattle.gridded.specs.declared.cell.Cell.{Cell}
use Rattle.gridded.specs.Grids.{Point, points, is_consistent}
use Rattle.gridded.specs.Orders.{cells_of, letters_of, gridded_cmp}
use Rattle.spec_lines.specs.Lines.{Text}
use Rattle.spec_lines.specs.Forms.{Line, is_line, has_items, ascending, is_word, is_cell, is_digit, is_pattern, is_patterns}
use Rattle.spec_lines.specs.Forms.Line.{Obstructions, Requirements}
use Rattle.spec_lines.specs.Follows.Place.{AtObstructions, AtRequirements}
use Rattle.spec_lines.specs.Items.{keep_if, same, items, read_all, dashed, behind}
use Rattle.spec_lines.specs.Readings.{cell_at, word_at, pattern_at, gridded_at, list_at, line_at}
use Rattle.spec_lines.specs.Ranges.{is_inside, is_short}
use Rattle.line_readers.specs.Kept.{where_it}
use Rattle.line_readers.proofs.Wide.{all_kept}
use Rattle.line_readers.proofs.LineForms.{kept, dashed_kept}

pub pattern_fits : (t : Text) (g : List Point) → pattern_at t ≡ Some g → is_pattern g ≡ true
pattern_fits t g h = split (same t (codes "e")) (items 58 t) h
  where
    by_cells : (letters : List ℕ) (o : Option (List Cell)) → option_and_then (λ cells. keep_if (nat_eq (length letters) (length cells) && is_pattern (points letters cells)) (points letters cells)) o ≡ Some g → is_pattern g ≡ true
    by_cells letters None e = absurd (none-some g e)
    by_cells letters (Some cells) e =
        let both = kept (nat_eq (length letters) (length cells) && is_pattern (points letters cells)) (points letters cells) g e in
        ap is_pattern (sym (both.1)) ∙ second_so (nat_eq (length letters) (length cells)) (is_pattern (points letters cells)) (both.0)

    by_word : (o : Option (List ℕ)) (q : Option (List Cell)) → option_and_then (λ letters. option_and_then (λ cells. keep_if (nat_eq (length letters) (length cells) && is_pattern (points letters cells)) (points letters cells)) q) o ≡ Some g → is_pattern g ≡ true
    by_word None q e = absurd (none-some g e)
    by_word (Some letters) q e = by_cells letters q e

    by_parts : (ts : List Text) → gridded_at ts ≡ Some g → is_pattern g ≡ true
    by_parts [] e = absurd (none-some g e)
    by_parts (w ∷ []) e = absurd (none-some g e)
    by_parts (w ∷ c ∷ []) e = by_word (word_at w) (read_all cell_at (items 46 c)) e
    by_parts (w ∷ c ∷ d ∷ ts) e = absurd (none-some g e)

    split : (b : Bool) (ts : List Text) → cond b (Some []) (gridded_at ts) ≡ Some g → is_pattern g ≡ true
    split true ts e = ap is_pattern (sym (same_Some [] g e))
    split false ts e = by_parts ts e

-- a condition of each item is one of all
pub kept_all : {X : Type 0} (read : Text → Option X) (p : X → Bool) (ts : List Text) → read_all (λ t. where_it p (read t)) ts ≡ where_it (list_all p) (read_all read ts)
kept_all read p [] = refl
kept_all {X = X} read p (t ∷ ts) =
    ap (λ o. option_and_then (λ x. option_map (λ xs. x ∷ xs) o) (where_it p (read t))) (kept_all read p ts) ∙ split (read t) (read_all read ts)
  where
    item : (x : X) (xs : List X) (b d : Bool) → option_and_then (λ y. option_map (λ ys. y ∷ ys) (keep_if d xs)) (keep_if b x) ≡ keep_if (b && d) (x ∷ xs)
    item x xs true true = refl
    item x xs true false = refl
    item x xs false d = refl

    none : (x : X) (b : Bool) → option_and_then (λ y. option_map (λ ys. y ∷ ys) None) (keep_if b x) ≡ None
    none x true = refl
    none x false = refl

    split : (o : Option X) (rest : Option (List X)) → option_and_then (λ y. option_map (λ ys. y ∷ ys) (where_it (list_all p) rest)) (where_it p o) ≡ where_it (list_all p) (option_and_then (λ x. option_map (λ xs. x ∷ xs) rest) o)
    split None rest = refl
    split (Some x) None = none x (p x)
    split (Some x) (Some xs) = item x xs (p x) (list_all p xs)

pub kept_dashed : {X : Type 0} (read : Text → Option X) (p : X → Bool) (ts : List Text) → dashed (λ t. where_it p (read t)) ts ≡ where_it (list_all p) (dashed read ts)
kept_dashed read p [] = refl
kept_dashed read p (t ∷ ts) = split (same t (codes "-") && not (has_items ts))
  where
    split : (b : Bool) → cond b (Some []) (read_all (λ u. where_it p (read u)) (t ∷ ts)) ≡ where_it (list_all p) (cond b (Some []) (read_all read (t ∷ ts)))
    split true = refl
    split false = kept_all read p (t ∷ ts)

moved : {X : Type 0} (f : X → Line) (x : X) (b : Bool) → keep_if b (f x) ≡ option_map f (keep_if b x)
moved f x true = refl
moved f x false = refl

two : (a b : Bool) → a ≡ true → (a && b) ≡ b
two a b h = rw h refl

pub obs_by : (t : Text) → line_at (AtObstructions 0 0) t ≡ option_map Obstructions (where_it (ascending gridded_cmp) (option_and_then (dashed pattern_at) (behind (codes "obs") (items 32 t))))
obs_by t = split (behind (codes "obs") (items 32 t))
  where
    patterns : (o : Option (List (List Point))) → ((xs : List (List Point)) → o ≡ Some xs → list_all is_pattern xs ≡ true) → where_it is_line (option_map Obstructions o) ≡ option_map Obstructions (where_it (ascending gridded_cmp) o)
    patterns None f = refl
    patterns (Some xs) f = ap (λ b. keep_if b (Obstructions xs)) (two (list_all is_pattern xs) (ascending gridded_cmp xs) (f xs refl)) ∙ moved Obstructions xs (ascending gridded_cmp xs)

    split : (o : Option (List Text)) → where_it is_line (option_and_then (λ ts. option_map Obstructions (dashed pattern_at ts)) o) ≡ option_map Obstructions (where_it (ascending gridded_cmp) (option_and_then (dashed pattern_at) o))
    split None = refl
    split (Some ts) = patterns (dashed pattern_at ts) (λ xs e. dashed_kept pattern_at is_pattern pattern_fits ts xs e)

pub req_by : (t : Text) → line_at (AtRequirements 0 0) t ≡ option_map Requirements (where_it (ascending (slice_cmp gridded_cmp)) (option_and_then (dashed (λ u. where_it is_patterns (list_at u))) (behind (codes "req") (items 32 t))))
req_by t = split (behind (codes "req") (items 32 t))
  where
    test : (xs : List (List (List Point))) (a : Bool) → keep_if (a && ascending (slice_cmp gridded_cmp) xs) (Requirements xs) ≡ option_map Requirements (where_it (ascending (slice_cmp gridded_cmp)) (keep_if a xs))
    test xs true = moved Requirements xs (ascending (slice_cmp gridded_cmp) xs)
    test xs false = refl

    lists : (o : Option (List (List (List Point)))) → where_it is_line (option_map Requirements o) ≡ option_map Requirements (where_it (ascending (slice_cmp gridded_cmp)) (where_it (list_all is_patterns) o))
    lists None = refl
    lists (Some xs) = test xs (list_all is_patterns xs)

    split : (o : Option (List Text)) → where_it is_line (option_and_then (λ ts. option_map Requirements (dashed list_at ts)) o) ≡ option_map Requirements (where_it (ascending (slice_cmp gridded_cmp)) (option_and_then (dashed (λ u. where_it is_patterns (list_at u))) o))
    split None = refl
    split (Some ts) = lists (dashed list_at ts) ∙ ap (λ o. option_map Requirements (where_it (ascending (slice_cmp gridded_cmp)) o)) (sym (kept_dashed list_at is_patterns ts))

-- ---- a cell of two digits is in a grid of ten columns and rows
digit_inside : (n : ℕ) → is_digit n ≡ true → nat_lt n 10 ≡ true
digit_inside n h = grind (arith, nat_tests, h)

both : (a b : Bool) → a ≡ true → b ≡ true → (a && b) ≡ true
both a b h k = rw (h, k) refl

cells_inside : (cells : List Cell) → list_all is_cell cells ≡ true → list_all (λ c. nat_lt c.x 10 && nat_lt c.y 10) cells ≡ true
cells_inside [] h = refl
cells_inside (c ∷ cells) h =
    let here = first_so (is_cell c) (list_all is_cell cells) h in
    both (nat_lt c.x 10 && nat_lt c.y 10) (list_all (λ d. nat_lt d.x 10 && nat_lt d.y 10) cells)
    (both (nat_lt c.x 10) (nat_lt c.y 10) (digit_inside c.x (first_so (is_digit c.x) (is_digit c.y) here)) (digit_inside c.y (second_so (is_digit c.x) (is_digit c.y) here)))
    (cells_inside cells (second_so (is_cell c) (list_all is_cell cells) h))

pattern_inside : (g : List Point) → is_pattern g ≡ true → is_inside 10 10 g ≡ is_short g
pattern_inside [] h = refl
pattern_inside (p ∷ g) h =
    let cells = second_so (is_word (letters_of (p ∷ g))) (list_all is_cell (cells_of (p ∷ g))) (first_so (is_word (letters_of (p ∷ g)) && list_all is_cell (cells_of (p ∷ g))) (is_consistent (p ∷ g)) h) in
    back (is_short (p ∷ g)) (list_all (λ c. nat_lt c.x 10 && nat_lt c.y 10) (cells_of (p ∷ g))) (cells_inside (cells_of (p ∷ g)) cells)
  where
    back : (a b : Bool) → b ≡ true → (a && b) ≡ a
    back true b h = h
    back false b h = refl

pub patterns_inside : (gs : List (List Point)) → list_all is_pattern gs ≡ true → list_all (λ g. is_inside 10 10 g) gs ≡ list_all is_short gs
patterns_inside [] h = refl
patterns_inside (g ∷ gs) h = same_two (pattern_inside g (first_so (is_pattern g) (list_all is_pattern gs) h)) (patterns_inside gs (second_so (is_pattern g) (list_all is_pattern gs) h))
  where
    same_two : {a b c d : Bool} → a ≡ b → c ≡ d → (a && c) ≡ (b && d)
    same_two e f = rw (e, f) refl

pub lists_inside : (lists : List (List (List Point))) → list_all is_patterns lists ≡ true → list_all (λ gs. list_all (λ g. is_inside 10 10 g) gs) lists ≡ list_all (λ gs. list_all is_short gs) lists
lists_inside [] h = refl
lists_inside (gs ∷ lists) h =
    let here = first_so (list_all is_pattern gs) (ascending gridded_cmp gs) (first_so (is_patterns gs) (list_all is_patterns lists) h) in
    same_two (patterns_inside gs here) (lists_inside lists (second_so (is_patterns gs) (list_all is_patterns lists) h))
  where
    same_two : {a b c d : Bool} → a ≡ b → c ≡ d → (a && c) ≡ (b && d)
    same_two e f = rw (e, f) refl

-- ---- lists of patterns
pub list_kept : (t : Text) (gs : List (List Point)) → list_at t ≡ Some gs → list_all is_pattern gs ≡ true
list_kept t gs h = split (same t (codes "x")) h
  where
    split : (b : Bool) → cond b (Some []) (read_all pattern_at (items 124 t)) ≡ Some gs → list_all is_pattern gs ≡ true
    split true e = ap (list_all is_pattern) (sym (same_Some [] gs e))
    split false e = all_kept pattern_at is_pattern pattern_fits (items 124 t) gs e

pub list_fits : (t : Text) (gs : List (List Point)) → list_at t ≡ Some gs → is_patterns gs ≡ ascending gridded_cmp gs
list_fits t gs h = two (list_all is_pattern gs) (ascending gridded_cmp gs) (list_kept t gs h)

pub map_same : {X : Type 0} (xs : List X) → map (λ x. x) xs ≡ xs
map_same [] = refl
map_same (x ∷ xs) = ap (λ ys. x ∷ ys) (map_same xs)

-- ---- what the lines have fits
where_that : {X : Type 0} (p : X → Bool) (o : Option X) (x : X) → where_it p o ≡ Some x → (o ≡ Some x) × (p x ≡ true)
where_that p None x h = absurd (none-some x h)
where_that p (Some y) x h = let both = kept (p y) y x h in (ap (λ z. Some z) (both.1), ap p (sym (both.1)) ∙ both.0)

pub obs_inside : (t : Text) (gs : List (List Point)) → where_it (ascending gridded_cmp) (option_and_then (dashed pattern_at) (behind (codes "obs") (items 32 t))) ≡ Some gs → list_all (λ g. is_inside 10 10 g) gs ≡ list_all is_short gs
obs_inside t gs h = patterns_inside gs (split (behind (codes "obs") (items 32 t)) ((where_that (ascending gridded_cmp) (option_and_then (dashed pattern_at) (behind (codes "obs") (items 32 t))) gs h).0))
  where
    split : (o : Option (List Text)) → option_and_then (dashed pattern_at) o ≡ Some gs → list_all is_pattern gs ≡ true
    split None e = absurd (none-some gs e)
    split (Some ts) e = dashed_kept pattern_at is_pattern pattern_fits ts gs e

pub req_inside : (t : Text) (lists : List (List (List Point))) → where_it (ascending (slice_cmp gridded_cmp)) (option_and_then (dashed (λ u. where_it is_patterns (list_at u))) (behind (codes "req") (items 32 t))) ≡ Some lists → list_all (λ gs. list_all (λ g. is_inside 10 10 g) gs) lists ≡ list_all (λ gs. list_all is_short gs) lists
req_inside t lists h = lists_inside lists (split (behind (codes "req") (items 32 t)) ((where_that (ascending (slice_cmp gridded_cmp)) (option_and_then (dashed (λ u. where_it is_patterns (list_at u))) (behind (codes "req") (items 32 t))) lists h).0))
  where
    split : (o : Option (List Text)) → option_and_then (dashed (λ u. where_it is_patterns (list_at u))) o ≡ Some lists → list_all is_patterns lists ≡ true
    split None e = absurd (none-some lists e)
    split (Some ts) e = dashed_kept (λ u. where_it is_patterns (list_at u)) is_patterns (λ u gs f. (where_that is_patterns (list_at u) gs f).1) ts lists e
