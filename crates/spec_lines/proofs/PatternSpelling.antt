-- Patterns are read exactly where they are spelled.
use Rattle.std.proofs.Common.{◌≡◌, ◌+◌, ◌≤◌, ◌-◌, ℕ, suc, List, [], ◌∷◌, ◌++◌, length, map, Bool, true, false, cond, arith, refl, ap, sym, subst, ◌∙◌, true≢false}
use Rattle.std.specs.Prelude.{◌&&◌, not, nat_le, nat_lt, nat_eq, Some, option_map, option_and_then, codes, decimal}
use Rattle.std.specs.List.{list_all}
use Rattle.std.specs.Cmp.{first_so, second_so}
use Rattle.std.proofs.lemmas.Bool.{and_from}
use Rattle.std.proofs.lemmas.List.{length-map}
use Rattle.std.proofs.lemmas.Grind.{common_steps}
use Rattle.std.proofs.lemmas.Option.{none-some, same_Some}
use Rattle.std.proofs.lemmas.Fmt.{decimal_digit}
use Rattle.patterns.specs.Words.{has_no_repeats}
use Rattle.gridded.specs.declared.cell.Cell.{Cell}
use Rattle.gridded.specs.Grids.{Point, letter_of, points, is_consistent, cell_of}
use Rattle.gridded.specs.Orders.{letters_of, cells_of}
use Rattle.spec_lines.specs.Lines.{Text, separated}
use Rattle.spec_lines.specs.Patterns.{word_text, cell_text, cells_text, pattern_text}
use Rattle.spec_lines.specs.Forms.{is_word, is_cell, is_digit, is_pattern, has_items}
use Rattle.spec_lines.specs.Items.{keep_if, items, read_all, same}
use Rattle.spec_lines.specs.Readings.{is_digit_byte, digit_at, letters_at, word_at, cell_at, gridded_at, pattern_at}
use Rattle.spec_lines.proofs.Bytes.{is_free, no_digit, all_also, all_append, all_separated}
use Rattle.spec_lines.proofs.Items.{items_joined, joined_items, joined_two}
use Rattle.spec_lines.proofs.Taking.{kept, mapped, bound, all_take, all_again, equal_tests, equal_numbers, same_text, differs}
use Rattle.spec_lines.proofs.NumberSpelling.{digit_range}

-- ====== digits and cells ======
pub digit_takes : (b x : ℕ) → digit_at b ≡ Some x → (b ∷ [] ≡ decimal x) × (x ≤ 9)
digit_takes b x h =
    let both = kept (is_digit_byte b) (b - 48) x h in
    let range = digit_range b (both.0) in
    let small : b - 48 ≤ 9 = omega (arith, range) in
    let back : 48 + (b - 48) ≡ b = omega (arith, range) in
    subst (λ y. (b ∷ [] ≡ decimal y) × (y ≤ 9)) (both.1) (sym (decimal_digit (b - 48) (omega (arith, small)) ∙ ap (λ c. c ∷ []) back), small)

pub is_digit_of : (x : ℕ) → x ≤ 9 → is_digit_byte (48 + x) ≡ true
is_digit_of x h = grind (arith, common_steps, h)

pub digit_again : (x : ℕ) → x ≤ 9 → digit_at (48 + x) ≡ Some x
digit_again x h = ap (λ b. keep_if b (48 + x - 48)) (is_digit_of x h) ∙ ap (λ n. Some n) (let e : 48 + x - 48 ≡ x = omega arith in e)

pub at_most_nine : (x : ℕ) → is_digit x ≡ true → x ≤ 9
at_most_nine x h = grind (arith, common_steps, h)

nine_at_most : (x : ℕ) → x ≤ 9 → is_digit x ≡ true
nine_at_most x h = grind (arith, common_steps, h)

pub two_digits : (c : Cell) → is_cell c ≡ true → cell_text c ≡ (48 + c.x) ∷ (48 + c.y) ∷ []
two_digits c h =
    let x = at_most_nine c.x (first_so (is_digit c.x) (is_digit c.y) h) in
    let y = at_most_nine c.y (second_so (is_digit c.x) (is_digit c.y) h) in
    ap (λ t. t ++ decimal c.y) (decimal_digit c.x (omega (arith, x))) ∙ ap (λ t. (48 + c.x) ∷ t) (decimal_digit c.y (omega (arith, y)))

pub cell_takes : (t : Text) (c : Cell) → cell_at t ≡ Some c → t ≡ cell_text c
cell_takes [] c h = absurd (none-some c h)
cell_takes (a ∷ []) c h = absurd (none-some c h)
cell_takes (a ∷ b ∷ []) c h =
    let first = bound (λ x. option_map (λ y. record { x = x; y = y }) (digit_at b)) (digit_at a) c h in
    let second = mapped (λ y. record { x = first.0; y = y }) (digit_at b) c (first.2) in
    let x = digit_takes a (first.0) (first.1) in
    let y = digit_takes b (second.0) (second.1) in
    ap (λ front. front ++ b ∷ []) (x.0) ∙ ap (λ back. decimal (first.0) ++ back) (y.0) ∙ ap cell_text (second.2)
cell_takes (a ∷ b ∷ d ∷ t) c h = absurd (none-some c h)

pub cell_is : (t : Text) (c : Cell) → cell_at t ≡ Some c → is_cell c ≡ true
cell_is [] c h = absurd (none-some c h)
cell_is (a ∷ []) c h = absurd (none-some c h)
cell_is (a ∷ b ∷ []) c h =
    let first = bound (λ x. option_map (λ y. record { x = x; y = y }) (digit_at b)) (digit_at a) c h in
    let second = mapped (λ y. record { x = first.0; y = y }) (digit_at b) c (first.2) in
    let x = nine_at_most (first.0) ((digit_takes a (first.0) (first.1)).1) in
    let y = nine_at_most (second.0) ((digit_takes b (second.0) (second.1)).1) in
    subst (λ d. is_cell d ≡ true) (second.2) (and_from (is_digit (first.0)) (is_digit (second.0)) x y)
cell_is (a ∷ b ∷ d ∷ t) c h = absurd (none-some c h)

pub cell_again : (c : Cell) → is_cell c ≡ true → cell_at (cell_text c) ≡ Some c
cell_again c h =
    let x = at_most_nine c.x (first_so (is_digit c.x) (is_digit c.y) h) in
    let y = at_most_nine c.y (second_so (is_digit c.x) (is_digit c.y) h) in
    ap cell_at (two_digits c h)
    ∙ ap (λ o. option_and_then (λ x. option_map (λ y. record { x = x; y = y }) (digit_at (48 + c.y))) o) (digit_again c.x x)
    ∙ ap (option_map (λ y. record { x = c.x; y = y })) (digit_again c.y y)

-- ====== letters ======
letters_take : (t : Text) (w : List ℕ) → letters_at t ≡ Some w → t ≡ word_text w
letters_take [] w h = ap word_text (same_Some [] w h)
letters_take (b ∷ t) w h =
    let first = bound (λ x. option_map (λ xs. x ∷ xs) (letters_at t)) (digit_at b) w h in
    let others = mapped (λ xs. first.0 ∷ xs) (letters_at t) w (first.2) in
    ap (λ front. front ++ t) ((digit_takes b (first.0) (first.1)).0) ∙ ap (λ back. decimal (first.0) ++ back) (letters_take t (others.0) (others.1)) ∙ ap word_text (others.2)

pub one_letter : (x : ℕ) (w : List ℕ) → is_digit x ≡ true → word_text (x ∷ w) ≡ (48 + x) ∷ word_text w
one_letter x w h = ap (λ front. front ++ word_text w) (decimal_digit x (let small = at_most_nine x h in omega (arith, small)))

letters_again : (w : List ℕ) → list_all is_digit w ≡ true → letters_at (word_text w) ≡ Some w
letters_again [] h = refl
letters_again (x ∷ w) h =
    let small = at_most_nine x (first_so (is_digit x) (list_all is_digit w) h) in
    ap letters_at (one_letter x w (first_so (is_digit x) (list_all is_digit w) h))
    ∙ ap (option_and_then (λ x. option_map (λ xs. x ∷ xs) (letters_at (word_text w)))) (digit_again x small)
    ∙ ap (option_map (λ xs. x ∷ xs)) (letters_again w (second_so (is_digit x) (list_all is_digit w) h))

pub word_digits : (w : List ℕ) → list_all is_digit w ≡ true → list_all is_digit_byte (word_text w) ≡ true
word_digits [] h = refl
word_digits (x ∷ w) h =
    ap (list_all is_digit_byte) (one_letter x w (first_so (is_digit x) (list_all is_digit w) h))
    ∙ ap (λ b. b && list_all is_digit_byte (word_text w)) (is_digit_of x (at_most_nine x (first_so (is_digit x) (list_all is_digit w) h)))
    ∙ word_digits w (second_so (is_digit x) (list_all is_digit w) h)

under : (n : ℕ) (w : List ℕ) → n ≤ 10 → list_all (λ x. nat_lt x n) w ≡ true → list_all is_digit w ≡ true
under n [] few h = refl
under n (x ∷ w) few h =
    let lower = first_so (nat_lt x n) (list_all (λ x. nat_lt x n) w) h in
    let digit : is_digit x ≡ true = grind (arith, common_steps, few, lower) in
    ap (λ b. b && list_all is_digit w) digit ∙ under n w few (second_so (nat_lt x n) (list_all (λ x. nat_lt x n) w) h)

pub letters_of_word : (w : List ℕ) → is_word w ≡ true → list_all is_digit w ≡ true
letters_of_word w h =
    let all = first_so (has_items w && nat_le (length w) 10 && list_all (λ x. nat_lt x (length w)) w) (has_no_repeats w) h in
    let below = second_so (has_items w && nat_le (length w) 10) (list_all (λ x. nat_lt x (length w)) w) all in
    let short = second_so (has_items w) (nat_le (length w) 10) (first_so (has_items w && nat_le (length w) 10) (list_all (λ x. nat_lt x (length w)) w) all) in
    let few : length w ≤ 10 = grind (arith, common_steps, short) in
    under (length w) w few below

pub word_takes : (t : Text) (w : List ℕ) → word_at t ≡ Some w → (t ≡ word_text w) × (is_word w ≡ true)
word_takes t w h =
    let read = bound (λ w. keep_if (is_word w) w) (letters_at t) w h in
    let both = kept (is_word (read.0)) (read.0) w (read.2) in
    (letters_take t (read.0) (read.1) ∙ ap word_text (both.1), subst (λ v. is_word v ≡ true) (both.1) (both.0))

pub word_again : (w : List ℕ) → is_word w ≡ true → word_at (word_text w) ≡ Some w
word_again w h = ap (option_and_then (λ w. keep_if (is_word w) w)) (letters_again w (letters_of_word w h)) ∙ ap (λ b. keep_if b w) h

-- ====== points ======
point_letters : (ls : List ℕ) (cs : List Cell) → length ls ≡ length cs → letters_of (points ls cs) ≡ ls
point_letters [] cs h = refl
point_letters (l ∷ ls) [] h = absurd (omega (arith, h))
point_letters (l ∷ ls) (c ∷ cs) h = ap (λ x. l ∷ x) (point_letters ls cs (omega (arith, h)))

point_cells : (ls : List ℕ) (cs : List Cell) → length ls ≡ length cs → cells_of (points ls cs) ≡ cs
point_cells [] [] h = refl
point_cells [] (c ∷ cs) h = absurd (omega (arith, h))
point_cells (l ∷ ls) [] h = absurd (omega (arith, h))
point_cells (l ∷ ls) (c ∷ cs) h = ap (λ x. c ∷ x) (point_cells ls cs (omega (arith, h)))

points_again : (g : List Point) → points (letters_of g) (cells_of g) ≡ g
points_again [] = refl
points_again (p ∷ g) = ap (λ x. p ∷ x) (points_again g)

as_many : (g : List Point) → length (letters_of g) ≡ length (cells_of g)
as_many [] = refl
as_many (p ∷ g) = ap suc (as_many g)

-- ====== patterns ======
by_parts : (g : List Point) → has_items g ≡ true → pattern_text g ≡ separated 58 (word_text (letters_of g) ∷ cells_text (cells_of g) ∷ [])
by_parts [] h = absurd (true≢false (sym h))
by_parts (p ∷ g) h = joined_two 58 (word_text (letters_of (p ∷ g))) (cells_text (cells_of (p ∷ g)))

some_points : (ls : List ℕ) (cs : List Cell) → length ls ≡ length cs → has_items ls ≡ true → has_items (points ls cs) ≡ true
some_points [] cs h s = s
some_points (l ∷ ls) [] h s = absurd (omega (arith, h))
some_points (l ∷ ls) (c ∷ cs) h s = refl

some_letters : (w : List ℕ) → is_word w ≡ true → has_items w ≡ true
some_letters w h = first_so (has_items w) (nat_le (length w) 10) (first_so (has_items w && nat_le (length w) 10) (list_all (λ x. nat_lt x (length w)) w) (first_so (has_items w && nat_le (length w) 10 && list_all (λ x. nat_lt x (length w)) w) (has_no_repeats w) h))

gridded_takes : (parts : List Text) (g : List Point) → gridded_at parts ≡ Some g → (is_pattern g ≡ true) × (pattern_text g ≡ separated 58 parts)
gridded_takes [] g h = absurd (none-some g h)
gridded_takes (w ∷ []) g h = absurd (none-some g h)
gridded_takes (w ∷ c ∷ d ∷ ts) g h = absurd (none-some g h)
gridded_takes (w ∷ c ∷ []) g h =
    let word = bound (λ letters. option_and_then (λ cells. keep_if (nat_eq (length letters) (length cells) && is_pattern (points letters cells)) (points letters cells)) (read_all cell_at (items 46 c))) (word_at w) g h in
    let cells = bound (λ cells. keep_if (nat_eq (length (word.0)) (length cells) && is_pattern (points (word.0) cells)) (points (word.0) cells)) (read_all cell_at (items 46 c)) g (word.2) in
    let both = kept (nat_eq (length (word.0)) (length (cells.0)) && is_pattern (points (word.0) (cells.0))) (points (word.0) (cells.0)) g (cells.2) in
    let many = equal_numbers (length (word.0)) (length (cells.0)) (first_so (nat_eq (length (word.0)) (length (cells.0))) (is_pattern (points (word.0) (cells.0))) (both.0)) in
    let spelled = word_takes w (word.0) (word.1) in
    let joined : c ≡ cells_text (cells.0) = sym (joined_items 46 c) ∙ ap (separated 46) (all_take cell_at cell_text cell_takes (items 46 c) (cells.0) (cells.1)) in
    subst (λ x. (is_pattern x ≡ true) × (pattern_text x ≡ separated 58 (w ∷ c ∷ []))) (both.1) (
      second_so (nat_eq (length (word.0)) (length (cells.0))) (is_pattern (points (word.0) (cells.0))) (both.0),
      by_parts (points (word.0) (cells.0)) (some_points (word.0) (cells.0) many (some_letters (word.0) (spelled.1)))
          ∙ ap (λ ls. separated 58 (word_text ls ∷ cells_text (cells_of (points (word.0) (cells.0))) ∷ [])) (point_letters (word.0) (cells.0) many)
          ∙ ap (λ cs. separated 58 (word_text (word.0) ∷ cells_text cs ∷ [])) (point_cells (word.0) (cells.0) many)
          ∙ ap (λ u. separated 58 (u ∷ cells_text (cells.0) ∷ [])) (sym (spelled.0))
          ∙ ap (λ u. separated 58 (w ∷ u ∷ [])) (sym joined),
    )

by_word : (t : Text) (b : Bool) (g : List Point) → (b ≡ true → t ≡ codes "e") → cond b (Some []) (gridded_at (items 58 t)) ≡ Some g → (t ≡ pattern_text g) × (is_pattern g ≡ true)
by_word t true g e h = subst (λ x. (t ≡ pattern_text x) × (is_pattern x ≡ true)) (same_Some [] g h) (e refl, refl)
by_word t false g e h = let found = gridded_takes (items 58 t) g h in (sym (joined_items 58 t) ∙ sym (found.1), found.0)

-- what is read is a pattern, and spelled so
pub pattern_takes : (t : Text) (g : List Point) → pattern_at t ≡ Some g → (t ≡ pattern_text g) × (is_pattern g ≡ true)
pattern_takes t g h = by_word t (same t (codes "e")) g (same_text t (codes "e")) h

cell_digits : (c : Cell) → is_cell c ≡ true → list_all is_digit_byte (cell_text c) ≡ true
cell_digits c h =
    let x = is_digit_of c.x (at_most_nine c.x (first_so (is_digit c.x) (is_digit c.y) h)) in
    let y = is_digit_of c.y (at_most_nine c.y (second_so (is_digit c.x) (is_digit c.y) h)) in
    ap (list_all is_digit_byte) (two_digits c h) ∙ ap (λ b. b && (is_digit_byte (48 + c.y) && true)) x ∙ ap (λ b. b && true) y

-- ====== which bytes there are ======
-- a test that the bytes of patterns pass
pub record Passes (f : ℕ → Bool) : Type 0 where
  pub digit : (b : ℕ) → is_digit_byte b ≡ true → f b ≡ true
  pub dot : f 46 ≡ true
  pub colon : f 58 ≡ true
  pub e : f 101 ≡ true

pub cell_passes : (f : ℕ → Bool) → ((b : ℕ) → is_digit_byte b ≡ true → f b ≡ true) → (cs : List Cell) → list_all is_cell cs ≡ true → list_all (list_all f) (map cell_text cs) ≡ true
cell_passes f digit [] h = refl
cell_passes f digit (c ∷ cs) h =
    and_from (list_all f (cell_text c)) (list_all (list_all f) (map cell_text cs)) (all_also is_digit_byte f digit (cell_text c) (cell_digits c (first_so (is_cell c) (list_all is_cell cs) h))) (cell_passes f digit cs (second_so (is_cell c) (list_all is_cell cs) h))

pub cells_pass : (f : ℕ → Bool) → ((b : ℕ) → is_digit_byte b ≡ true → f b ≡ true) → f 46 ≡ true → (cs : List Cell) → list_all is_cell cs ≡ true → list_all f (cells_text cs) ≡ true
cells_pass f digit dot cs h = all_separated f 46 (map cell_text cs) dot (cell_passes f digit cs h)

pub word_passes : (f : ℕ → Bool) → ((b : ℕ) → is_digit_byte b ≡ true → f b ≡ true) → (w : List ℕ) → is_word w ≡ true → list_all f (word_text w) ≡ true
word_passes f digit w h = all_also is_digit_byte f digit (word_text w) (word_digits w (letters_of_word w h))

pub word_of : (p : Point) (g : List Point) → is_pattern (p ∷ g) ≡ true → is_word (letters_of (p ∷ g)) ≡ true
word_of p g h = first_so (is_word (letters_of (p ∷ g))) (list_all is_cell (cells_of (p ∷ g))) (first_so (is_word (letters_of (p ∷ g)) && list_all is_cell (cells_of (p ∷ g))) (is_consistent (p ∷ g)) h)

pub digit_cells : (p : Point) (g : List Point) → is_pattern (p ∷ g) ≡ true → list_all is_cell (cells_of (p ∷ g)) ≡ true
digit_cells p g h = second_so (is_word (letters_of (p ∷ g))) (list_all is_cell (cells_of (p ∷ g))) (first_so (is_word (letters_of (p ∷ g)) && list_all is_cell (cells_of (p ∷ g))) (is_consistent (p ∷ g)) h)

pub pattern_passes : (f : ℕ → Bool) → Passes f → (g : List Point) → is_pattern g ≡ true → list_all f (pattern_text g) ≡ true
pattern_passes f each [] h = ap (λ b. b && true) each.e
pattern_passes f each (p ∷ g) h =
    let ls = letters_of (p ∷ g) in
    let cs = cells_of (p ∷ g) in
    all_append f (word_text ls ++ codes ":") (cells_text cs) (all_append f (word_text ls) (codes ":") (word_passes f each.digit ls (word_of p g h)) (ap (λ b. b && true) each.colon)) (cells_pass f each.digit each.dot cs (digit_cells p g h))

pub at_most_ten : (g : List Point) → is_pattern g ≡ true → length g ≤ 10
at_most_ten [] h = omega arith
at_most_ten (p ∷ g) h =
    let ls = letters_of (p ∷ g) in
    let word = word_of p g h in
    let short = second_so (has_items ls) (nat_le (length ls) 10) (first_so (has_items ls && nat_le (length ls) 10) (list_all (λ x. nat_lt x (length ls)) ls) (first_so (has_items ls && nat_le (length ls) 10 && list_all (λ x. nat_lt x (length ls)) ls) (has_no_repeats ls) word)) in
    let few : length ls ≤ 10 = grind (arith, common_steps, short) in
    subst (λ n. n ≤ 10) (length-map (p ∷ g) letter_of) few

-- ====== patterns that are spelled are read ======
gridded_again : (p : Point) (g : List Point) → is_pattern (p ∷ g) ≡ true → gridded_at (word_text (letters_of (p ∷ g)) ∷ cells_text (cells_of (p ∷ g)) ∷ []) ≡ Some (p ∷ g)
gridded_again p g h =
    let ls = letters_of (p ∷ g) in
    let cs = cells_of (p ∷ g) in
    let cells = digit_cells p g h in
    let free = cell_passes (λ b. not (nat_eq b 46)) (λ b digit. no_digit b 46 refl digit) cs cells in
    let first_free = first_so (is_free 46 (cell_text (cell_of p))) (list_all (is_free 46) (map cell_text (cells_of g))) free in
    let later_free = second_so (is_free 46 (cell_text (cell_of p))) (list_all (is_free 46) (map cell_text (cells_of g))) free in
    let cut = items_joined 46 (cell_text (cell_of p)) (map cell_text (cells_of g)) first_free later_free in
    let many : nat_eq (length ls) (length cs) ≡ true = equal_tests (length ls) (length cs) (as_many (p ∷ g)) in
    ap (option_and_then (λ letters. option_and_then (λ cells. keep_if (nat_eq (length letters) (length cells) && is_pattern (points letters cells)) (points letters cells)) (read_all cell_at (items 46 (cells_text cs))))) (word_again ls (word_of p g h))
    ∙ ap (λ ts. option_and_then (λ cells. keep_if (nat_eq (length ls) (length cells) && is_pattern (points ls cells)) (points ls cells)) (read_all cell_at ts)) cut
    ∙ ap (option_and_then (λ cells. keep_if (nat_eq (length ls) (length cells) && is_pattern (points ls cells)) (points ls cells))) (all_again cell_at cell_text is_cell cell_again cs cells)
    ∙ ap (λ x. keep_if (nat_eq (length ls) (length cs) && is_pattern x) x) (points_again (p ∷ g))
    ∙ ap (λ b. keep_if (b && is_pattern (p ∷ g)) (p ∷ g)) many
    ∙ ap (λ b. keep_if b (p ∷ g)) h

by_colon : (p : Point) (g : List Point) → is_pattern (p ∷ g) ≡ true → gridded_at (items 58 (pattern_text (p ∷ g))) ≡ Some (p ∷ g)
by_colon p g h =
    let ls = letters_of (p ∷ g) in
    let cs = cells_of (p ∷ g) in
    let no_colon : (b : ℕ) → is_digit_byte b ≡ true → not (nat_eq b 58) ≡ true = λ b digit. no_digit b 58 refl digit in
    let cells_free : list_all (is_free 58) (cells_text cs ∷ []) ≡ true = and_from (is_free 58 (cells_text cs)) true (cells_pass (λ b. not (nat_eq b 58)) no_colon refl cs (digit_cells p g h)) refl in
    let parts = items_joined 58 (word_text ls) (cells_text cs ∷ []) (word_passes (λ b. not (nat_eq b 58)) no_colon ls (word_of p g h)) cells_free in
    ap (λ t. gridded_at (items 58 t)) (by_parts (p ∷ g) refl) ∙ ap gridded_at parts ∙ gridded_again p g h

-- what is a pattern is read from its text
pub pattern_again : (g : List Point) → is_pattern g ≡ true → pattern_at (pattern_text g) ≡ Some g
pattern_again [] h = refl
pattern_again (p ∷ g) h =
    let read = by_colon p g h in
    ap (λ b. cond b (Some []) (gridded_at (items 58 (pattern_text (p ∷ g))))) (differs (λ t. gridded_at (items 58 t)) (pattern_text (p ∷ g)) (codes "e") (p ∷ g) read refl) ∙ read
