-- Patterns of letters and cells.
use Rattle.std.proofs.Common.{◌≡◌, ◌≢◌, ◌+◌, ◌-◌, ◌≤◌, ◌<◌, ℕ, suc, zero, Bool, true, false, List, [], ◌∷◌, ◌++◌, length, drop, get_or, map, arith, ap, refl, sym, subst, ◌∙◌}
use Rattle.std.specs.Prelude.{◌&&◌, not, nat_le, nat_lt, nat_eq, Option, Some, None, option_map, option_and_then, All}
use Rattle.std.specs.List.{list_all, AllByRecursion}
use Rattle.std.proofs.lemmas.Bool.Decides.{nat_tests}
use Rattle.std.proofs.lemmas.Grind.{common_steps}
use Rattle.std.proofs.lemmas.List.Elements.{All-from_recursion}
use Rattle.std.specs.Cmp.{first_so, second_so}
use Rattle.std.proofs.lemmas.List.{drop_more}
use Rattle.std.proofs.lemmas.Option.{none-some, same_Some}
use Rattle.gridded.specs.declared.cell.Cell.{Cell}
use Rattle.patterns.specs.Words.{has_no_repeats}
use Rattle.gridded.specs.Grids.{Point, points, is_consistent, IsGridded, FitTogether}
use Rattle.gridded.specs.Orders.{letters_of, cells_of}
use Rattle.spec_lines.specs.Lines.{Text}
use Rattle.spec_lines.specs.Forms.{is_pattern, is_word, is_cell, is_digit}
use Rattle.spec_lines.specs.Items.{read_all, keep_if, items}
use Rattle.spec_lines.specs.Readings.{cell_at, digit_at, is_digit_byte, word_at, gridded_at}
use Rattle.line_readers.specs.Few.{IsFew}
use Rattle.line_readers.specs.Wide.{IsWide}

-- the letters and the cells of points
pub letters_back : (letters : List ℕ) (cells : List Cell) → length letters ≡ length cells → letters_of (points letters cells) ≡ letters
letters_back [] cells e = refl
letters_back (l ∷ letters) [] e = absurd (omega (arith, e))
letters_back (l ∷ letters) (c ∷ cells) e = ap (λ xs. l ∷ xs) (letters_back letters cells (omega (arith, e)))

pub cells_back : (letters : List ℕ) (cells : List Cell) → length letters ≡ length cells → cells_of (points letters cells) ≡ cells
cells_back [] [] e = refl
cells_back [] (c ∷ cells) e = absurd (omega (arith, e))
cells_back (l ∷ letters) [] e = absurd (omega (arith, e))
cells_back (l ∷ letters) (c ∷ cells) e = ap (λ xs. c ∷ xs) (cells_back letters cells (omega (arith, e)))

-- the points from a place on
pub points_behind : (letters : List ℕ) (cells : List Cell) (i : ℕ) (c : Cell) → length letters ≡ length cells → i < length letters → points (drop i letters) (drop i cells) ≡ record { letter = get_or letters i 0; cell = get_or cells i c } ∷ points (drop (i + 1) letters) (drop (i + 1) cells)
points_behind letters cells i c e within =
    ap (λ xs. points xs (drop i cells)) (drop_more letters i 0 within)
    ∙ ap (λ ys. points (get_or letters i 0 ∷ drop (i + 1) letters) ys) (drop_more cells i c (omega (arith, e, within)))

-- what is read has a property that each item has
pub all_kept : {X : Type 0} (read : Text → Option X) (p : X → Bool) → ((t : Text) (x : X) → read t ≡ Some x → p x ≡ true) → (ts : List Text) (xs : List X) → read_all read ts ≡ Some xs → list_all p xs ≡ true
all_kept read p each [] xs h = ap (list_all p) (sym (same_Some [] xs h))
all_kept {X = X} read p each (t ∷ ts) xs h = split (read t) (read_all read ts) (λ x e. each t x e) (λ ys e. all_kept read p each ts ys e) h
  where
    split : (o : Option X) (rest : Option (List X)) → ((x : X) → o ≡ Some x → p x ≡ true) → ((ys : List X) → rest ≡ Some ys → list_all p ys ≡ true) → option_and_then (λ x. option_map (λ ys. x ∷ ys) rest) o ≡ Some xs → list_all p xs ≡ true
    split None rest here more h = absurd (none-some xs h)
    split (Some x) None here more h = absurd (none-some xs h)
    split (Some x) (Some ys) here more h =
        let front = here x refl in
        let behind = more ys refl in
        ap (list_all p) (sym (same_Some (x ∷ ys) xs h)) ∙ rw (front, behind) refl

-- a cell that is read has digits
digit_range : (b : ℕ) → is_digit_byte b ≡ true → (48 ≤ b) × (b ≤ 57)
digit_range b h = let low = first_so (nat_le 48 b) (nat_le b 57) h in let high = second_so (nat_le 48 b) (nat_le b 57) h in (grind (arith, common_steps, low), grind (arith, common_steps, high))

kept : {X : Type 0} (b : Bool) (x y : X) → keep_if b x ≡ Some y → (b ≡ true) × (x ≡ y)
kept true x y h = (refl, same_Some x y h)
kept false x y h = absurd (none-some y h)

pub digit_small : (b d : ℕ) → digit_at b ≡ Some d → is_digit d ≡ true
digit_small b d h =
    let both = kept (is_digit_byte b) (b - 48) d h in
    let range = digit_range b (both.0) in
    let same = both.1 in
    let few : d ≤ 9 = omega (arith, range, same) in
    grind (arith, nat_tests, few)

pub cell_digits : (t : Text) (c : Cell) → cell_at t ≡ Some c → is_cell c ≡ true
cell_digits [] c h = absurd (none-some c h)
cell_digits (a ∷ []) c h = absurd (none-some c h)
cell_digits (a ∷ b ∷ d ∷ t) c h = absurd (none-some c h)
cell_digits (a ∷ b ∷ []) c h = split (digit_at a) (digit_at b) refl refl h
  where
    split : (o q : Option ℕ) → digit_at a ≡ o → digit_at b ≡ q → option_and_then (λ x. option_map (λ y. record { x = x; y = y }) q) o ≡ Some c → is_cell c ≡ true
    split None q e f h = absurd (none-some c h)
    split (Some x) None e f h = absurd (none-some c h)
    split (Some x) (Some y) e f h =
        let left = digit_small a x e in
        let low = digit_small b y f in
        let both : is_digit x && is_digit y ≡ true = rw (left, low) refl in
        let there : Some (record { x = x; y = y }) ≡ Some c = h in
        ap is_cell (sym (same_Some (record { x = x; y = y }) c there)) ∙ both

pub cells_digits : (ts : List Text) (cells : List Cell) → read_all cell_at ts ≡ Some cells → list_all is_cell cells ≡ true
cells_digits ts cells h = all_kept cell_at is_cell cell_digits ts cells h

-- ---- the pattern of a word and cells
both_true : (a b c : Bool) → a ≡ true → b ≡ true → (a && b && c) ≡ c
both_true a b c h k = rw (h, k) refl

pub pattern_by : (letters : List ℕ) (cells : List Cell) → is_word letters ≡ true → length letters ≡ length cells → list_all is_cell cells ≡ true → is_pattern (points letters cells) ≡ is_consistent (points letters cells)
pattern_by [] cells word e digits = absurd cc
pattern_by (l ∷ letters) [] word e digits = absurd (omega (arith, e))
pattern_by (l ∷ letters) (c ∷ cells) word e digits =
    both_true (is_word (letters_of (points (l ∷ letters) (c ∷ cells)))) (list_all is_cell (cells_of (points (l ∷ letters) (c ∷ cells)))) (is_consistent (points (l ∷ letters) (c ∷ cells)))
    (ap is_word (letters_back (l ∷ letters) (c ∷ cells) e) ∙ word)
    (ap (list_all is_cell) (cells_back (l ∷ letters) (c ∷ cells) e) ∙ digits)

-- what the letters and the cells are read as decides
pub gridded_no_word : (w c : Text) → word_at w ≡ None → gridded_at (w ∷ c ∷ []) ≡ None
gridded_no_word w c e = ap (λ o. option_and_then (λ ls. option_and_then (λ cs. keep_if (nat_eq (length ls) (length cs) && is_pattern (points ls cs)) (points ls cs)) (read_all cell_at (items 46 c))) o) e

pub gridded_by : (w c : Text) (letters : List ℕ) (cells : List Cell) → word_at w ≡ Some letters → read_all cell_at (items 46 c) ≡ Some cells → gridded_at (w ∷ c ∷ []) ≡ keep_if (nat_eq (length letters) (length cells) && is_pattern (points letters cells)) (points letters cells)
gridded_by w c letters cells e f =
    ap (λ o. option_and_then (λ ls. option_and_then (λ cs. keep_if (nat_eq (length ls) (length cs) && is_pattern (points ls cs)) (points ls cs)) (read_all cell_at (items 46 c))) o) e
    ∙ ap (λ o. option_and_then (λ cs. keep_if (nat_eq (length letters) (length cs) && is_pattern (points letters cs)) (points letters cs)) o) f

unequal : {X : Type 0} (n m : ℕ) (b : Bool) (x : X) → n ≢ m → keep_if (nat_eq n m && b) x ≡ None
unequal n m b x differ = let no_same : nat_eq n m ≡ false = grind (arith, nat_tests, differ) in rw no_same refl

pub gridded_unequal : (w c : Text) (letters : List ℕ) (cells : List Cell) → word_at w ≡ Some letters → read_all cell_at (items 46 c) ≡ Some cells → length letters ≢ length cells → gridded_at (w ∷ c ∷ []) ≡ None
gridded_unequal w c letters cells e f differ = gridded_by w c letters cells e f ∙ unequal (length letters) (length cells) (is_pattern (points letters cells)) (points letters cells) differ

equal : {X : Type 0} (n m : ℕ) (b d : Bool) (x : X) → n ≡ m → b ≡ d → keep_if (nat_eq n m && b) x ≡ keep_if d x
equal n m b d x e f = let test : nat_eq n m ≡ true = grind (arith, nat_tests, e) in rw (test, f) refl

pub gridded_fitting : (w c : Text) (letters : List ℕ) (cells : List Cell) → word_at w ≡ Some letters → read_all cell_at (items 46 c) ≡ Some cells → length letters ≡ length cells → is_word letters ≡ true → gridded_at (w ∷ c ∷ []) ≡ keep_if (is_consistent (points letters cells)) (points letters cells)
gridded_fitting w c letters cells e f as_many word =
    gridded_by w c letters cells e f
    ∙ equal (length letters) (length cells) (is_pattern (points letters cells)) (is_consistent (points letters cells)) (points letters cells) as_many (pattern_by letters cells word as_many (cells_digits (items 46 c) cells f))

short_word : (w : List ℕ) → is_word w ≡ true → length w ≤ 10
short_word [] h = omega arith
short_word (x ∷ w) h =
    let front = first_so (nat_le (length (x ∷ w)) 10 && list_all (λ y. nat_lt y (length (x ∷ w))) (x ∷ w)) (has_no_repeats (x ∷ w)) h in
    let few = first_so (nat_le (length (x ∷ w)) 10) (list_all (λ y. nat_lt y (length (x ∷ w))) (x ∷ w)) front in
    grind (arith, common_steps, few)

pub gridded_many : (w c : Text) (letters : List ℕ) → word_at w ≡ Some letters → is_word letters ≡ true → IsFew None (read_all cell_at (items 46 c)) → gridded_at (w ∷ c ∷ []) ≡ None
gridded_many w c letters e word many = split (read_all cell_at (items 46 c)) refl
  where
    split : (o : Option (List Cell)) → read_all cell_at (items 46 c) ≡ o → gridded_at (w ∷ c ∷ []) ≡ None
    split None f =
        ap (λ o. option_and_then (λ ls. option_and_then (λ cs. keep_if (nat_eq (length ls) (length cs) && is_pattern (points ls cs)) (points ls cs)) (read_all cell_at (items 46 c))) o) e
        ∙ ap (λ o. option_and_then (λ cs. keep_if (nat_eq (length letters) (length cs) && is_pattern (points letters cs)) (points letters cs)) o) f
    split (Some cells) f =
        let more = many cells f in
        let few = short_word letters word in
        gridded_unequal w c letters cells e f (omega (arith, more, few))

-- ---- a pattern of at most nine points is gridded
below_each : (n : ℕ) (g : List Point) → list_all (λ x. nat_lt x n) (letters_of g) ≡ true → AllByRecursion (λ (p : Point). p.letter < n) g
below_each n [] h = tt
below_each n (p ∷ g) h =
    let here = first_so (nat_lt p.letter n) (list_all (λ x. nat_lt x n) (letters_of g)) h in
    (grind (arith, common_steps, here), below_each n g (second_so (nat_lt p.letter n) (list_all (λ x. nat_lt x n) (letters_of g)) h))

as_many_letters : (g : List Point) → length (letters_of g) ≡ length g
as_many_letters [] = refl
as_many_letters (p ∷ g) = ap suc (as_many_letters g)

pub gridded_from_pattern : (g : List Point) → is_pattern g ≡ true → length g ≤ 9 → IsGridded g
gridded_from_pattern [] h short = record {
  short = short;
  below = All-from_recursion (λ (p : Point). p.letter < 0) [] tt;
  distinct = refl;
  consistent = refl;
}
gridded_from_pattern (p ∷ g) h short =
    let w : List ℕ = letters_of (p ∷ g) in
    let front = first_so (is_word w && list_all is_cell (cells_of (p ∷ g))) (is_consistent (p ∷ g)) h in
    let word = first_so (is_word w) (list_all is_cell (cells_of (p ∷ g))) front in
    let lead = first_so (nat_le (length w) 10 && list_all (λ x. nat_lt x (length w)) w) (has_no_repeats w) word in
    let small = second_so (nat_le (length w) 10) (list_all (λ x. nat_lt x (length w)) w) lead in
    record {
      short = short;
      below = All-from_recursion (λ (q : Point). q.letter < length (p ∷ g)) (p ∷ g) (subst (λ n. AllByRecursion (λ (q : Point). q.letter < n) (p ∷ g)) (as_many_letters (p ∷ g)) (below_each (length w) (p ∷ g) small));
      distinct = second_so (nat_le (length w) 10 && list_all (λ x. nat_lt x (length w)) w) (has_no_repeats w) word;
      consistent = second_so (is_word w && list_all is_cell (cells_of (p ∷ g))) (is_consistent (p ∷ g)) h;
    }

pub as_many_points : (letters : List ℕ) (cells : List Cell) → length letters ≡ length cells → length (points letters cells) ≡ length letters
as_many_points letters cells e = sym (as_many_letters (points letters cells)) ∙ ap (λ (xs : List ℕ). length xs) (letters_back letters cells e)

pub fit_from_wide : (letters : List ℕ) (cells : List Cell) → IsWide letters cells → length letters ≤ 9 → FitTogether letters cells
fit_from_wide letters cells h short = record {
  as_many = h.as_many;
  gridded = gridded_from_pattern (points letters cells) h.pattern (let same = as_many_points letters cells h.as_many in omega (arith, same, short));
}

-- ---- what is made of a word and cells
pub wide_by : (letters word : List ℕ) (cells : List Cell) → letters ≡ word → is_word word ≡ true → length word ≡ length cells → list_all is_cell cells ≡ true → is_consistent (points word cells) ≡ true → IsWide letters cells
wide_by letters word cells same is as_many digits fit = record {
  as_many = ap (λ (xs : List ℕ). length xs) same ∙ as_many;
  pattern = ap (λ xs. is_pattern (points xs cells)) same ∙ pattern_by word cells is as_many digits ∙ fit;
}

pub read_by : (w c : Text) (letters word : List ℕ) (cells : List Cell) → letters ≡ word → word_at w ≡ Some word → read_all cell_at (items 46 c) ≡ Some cells → length word ≡ length cells → is_word word ≡ true → is_consistent (points word cells) ≡ true → gridded_at (w ∷ c ∷ []) ≡ Some (points letters cells)
read_by w c letters word cells same e f as_many is fit =
    gridded_fitting w c word cells e f as_many is
    ∙ ap (λ b. keep_if b (points word cells)) fit
    ∙ ap (λ xs. Some (points xs cells)) (sym same)

pub not_both : (a b : Bool) → b ≡ false → (a && b) ≡ false
not_both true b h = h
not_both false b h = refl
