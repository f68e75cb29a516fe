-- Words, cells, patterns and lists of patterns are in the order of their texts.
use Rattle.std.proofs.Common.{◌≡◌, ◌+◌, ◌*◌, ℕ, suc, Bool, true, false, cond, List, [], ◌∷◌, ◌++◌, length, map, refl, ap, sym, ◌∙◌, arith, append_assoc, length-append}
use Rattle.std.specs.Prelude.{◌&&◌, ◌==◌, nat_lt, Option, Some, option_map, codes}
use Rattle.std.specs.List.{list_all}
use Rattle.std.specs.Cmp.{first_so, second_so}
use Rattle.std.specs.Cmp.Lexicographic.{slice_cmp}
use Rattle.std.specs.declared.cmp.Ordering.{Ordering}
use Rattle.std.specs.declared.cmp.Ordering.TheVariants.{Less, Equal, Greater}
use Rattle.std.specs.Ordering.{nat_cmp, ordering_then, is_lt}
use Rattle.std.proofs.lemmas.Bool.Decides.{nat_tests}
use Rattle.std.proofs.lemmas.Grind.{common_steps}
use Rattle.std.proofs.lemmas.List.{length-map, map-id}
use Rattle.std.proofs.lemmas.Option.{same_Some}
use Rattle.perm_core.specs.Orders.{perm_cmp}
use Rattle.gridded.specs.declared.cell.Cell.{Cell}
use Rattle.gridded.specs.Grids.{Point, letter_of, cell_of}
use Rattle.gridded.specs.Orders.{cell_cmp, gridded_cmp, letters_of, cells_of}
use Rattle.spec_lines.specs.Lines.{Text, each_after}
use Rattle.spec_lines.specs.Patterns.{word_text, cell_text, cells_text, pattern_text}
use Rattle.spec_lines.specs.Forms.{ascending, is_digit, is_word, is_cell, is_pattern}
use Rattle.spec_lines.specs.Items.{same, items, read_all}
use Rattle.spec_lines.specs.Readings.{word_at, cell_at, pattern_at, list_at}
use Rattle.spec_lines.specs.Orders.{text_cmp, members_of}
use Rattle.spec_lines.proofs.Taking.{bound, mapped}
use Rattle.spec_lines.proofs.PatternSpelling.{word_takes, cell_takes, cell_is, pattern_takes, two_digits, one_letter, letters_of_word, word_of, digit_cells}

-- ====== comparing ======
then_regroup : (a b c : Ordering) → ordering_then (ordering_then a b) c ≡ ordering_then a (ordering_then b c)
then_regroup Less b c = refl
then_regroup Equal b c = refl
then_regroup Greater b c = refl

then_end : (a : Ordering) → ordering_then a Equal ≡ a
then_end Less = refl
then_end Equal = refl
then_end Greater = refl

-- what comes after two numbers counts only where they are equal
then_by : (b c : Bool) (x y : Ordering) → (c ≡ true → x ≡ y) → ordering_then (cond b Less (cond c Equal Greater)) x ≡ ordering_then (cond b Less (cond c Equal Greater)) y
then_by true c x y h = refl
then_by false true x y h = h refl
then_by false false x y h = refl

then_if : (m n : ℕ) (x y : Ordering) → (m ≡ n → x ≡ y) → ordering_then (nat_cmp m n) x ≡ ordering_then (nat_cmp m n) y
then_if m n x y h = then_by (nat_lt m n) (m == n) x y (λ e. h (grind (arith, common_steps, e)))

append_cmp : (a b c d : Text) → length a ≡ length b → slice_cmp nat_cmp (a ++ c) (b ++ d) ≡ ordering_then (slice_cmp nat_cmp a b) (slice_cmp nat_cmp c d)
append_cmp [] [] c d e = refl
append_cmp [] (y ∷ b) c d e = absurd (omega (arith, e))
append_cmp (x ∷ a) [] c d e = absurd (omega (arith, e))
append_cmp (x ∷ a) (y ∷ b) c d e = ap (ordering_then (nat_cmp x y)) (append_cmp a b c d (omega (arith, e))) ∙ sym (then_regroup (nat_cmp x y) (slice_cmp nat_cmp a b) (slice_cmp nat_cmp c d))

digit_cmp : (x y : ℕ) → nat_cmp (48 + x) (48 + y) ≡ nat_cmp x y
digit_cmp x y = grind (arith, nat_tests)

-- ====== words ======
letters_long : (w : List ℕ) → list_all is_digit w ≡ true → length (word_text w) ≡ length w
letters_long [] h = refl
letters_long (x ∷ w) h = ap (λ (t : Text). length t) (one_letter x w (first_so (is_digit x) (list_all is_digit w) h)) ∙ ap suc (letters_long w (second_so (is_digit x) (list_all is_digit w) h))

letters_cmp : (w v : List ℕ) → list_all is_digit w ≡ true → list_all is_digit v ≡ true → slice_cmp nat_cmp (word_text w) (word_text v) ≡ slice_cmp nat_cmp w v
letters_cmp [] [] h k = refl
letters_cmp [] (y ∷ v) h k = ap (slice_cmp nat_cmp []) (one_letter y v (first_so (is_digit y) (list_all is_digit v) k))
letters_cmp (x ∷ w) [] h k = ap (λ t. slice_cmp nat_cmp t []) (one_letter x w (first_so (is_digit x) (list_all is_digit w) h))
letters_cmp (x ∷ w) (y ∷ v) h k =
    ap (λ t. slice_cmp nat_cmp t (word_text (y ∷ v))) (one_letter x w (first_so (is_digit x) (list_all is_digit w) h))
    ∙ ap (λ t. slice_cmp nat_cmp ((48 + x) ∷ word_text w) t) (one_letter y v (first_so (is_digit y) (list_all is_digit v) k))
    ∙ ap (λ o. ordering_then o (slice_cmp nat_cmp (word_text w) (word_text v))) (digit_cmp x y)
    ∙ ap (ordering_then (nat_cmp x y)) (letters_cmp w v (second_so (is_digit x) (list_all is_digit w) h) (second_so (is_digit y) (list_all is_digit v) k))

pub word_order : (w v : List ℕ) → is_word w ≡ true → is_word v ≡ true → text_cmp (word_text w) (word_text v) ≡ perm_cmp w v
word_order w v h k =
    let ws = letters_of_word w h in
    let vs = letters_of_word v k in
    ap (λ n. ordering_then (nat_cmp n (length (word_text v))) (slice_cmp nat_cmp (word_text w) (word_text v))) (letters_long w ws)
    ∙ ap (λ n. ordering_then (nat_cmp (length w) n) (slice_cmp nat_cmp (word_text w) (word_text v))) (letters_long v vs)
    ∙ ap (ordering_then (nat_cmp (length w) (length v))) (letters_cmp w v ws vs)

-- ====== cells ======
two_long : (c : Cell) → is_cell c ≡ true → length (cell_text c) ≡ 2
two_long c h = ap (λ (t : Text). length t) (two_digits c h)

cell_bytes : (c d : Cell) → is_cell c ≡ true → is_cell d ≡ true → slice_cmp nat_cmp (cell_text c) (cell_text d) ≡ cell_cmp c d
cell_bytes c d h k =
    ap (λ t. slice_cmp nat_cmp t (cell_text d)) (two_digits c h)
    ∙ ap (slice_cmp nat_cmp ((48 + c.x) ∷ (48 + c.y) ∷ [])) (two_digits d k)
    ∙ ap (λ o. ordering_then o (ordering_then (nat_cmp (48 + c.y) (48 + d.y)) Equal)) (digit_cmp c.x d.x)
    ∙ ap (ordering_then (nat_cmp c.x d.x)) (then_end (nat_cmp (48 + c.y) (48 + d.y)) ∙ digit_cmp c.y d.y)

pub cell_order : (c d : Cell) → is_cell c ≡ true → is_cell d ≡ true → text_cmp (cell_text c) (cell_text d) ≡ cell_cmp c d
cell_order c d h k =
    ap (λ n. ordering_then (nat_cmp n (length (cell_text d))) (slice_cmp nat_cmp (cell_text c) (cell_text d))) (two_long c h)
    ∙ ap (λ n. ordering_then (nat_cmp 2 n) (slice_cmp nat_cmp (cell_text c) (cell_text d))) (two_long d k)
    ∙ cell_bytes c d h k

later_cells : (cs ds : List Cell) → list_all is_cell cs ≡ true → list_all is_cell ds ≡ true → slice_cmp nat_cmp (each_after 46 (map cell_text cs)) (each_after 46 (map cell_text ds)) ≡ slice_cmp cell_cmp cs ds
later_cells [] [] h k = refl
later_cells [] (d ∷ ds) h k = refl
later_cells (c ∷ cs) [] h k = refl
later_cells (c ∷ cs) (d ∷ ds) h k =
    let first = first_so (is_cell c) (list_all is_cell cs) h in
    let other = first_so (is_cell d) (list_all is_cell ds) k in
    append_cmp (46 ∷ cell_text c) (46 ∷ cell_text d) (each_after 46 (map cell_text cs)) (each_after 46 (map cell_text ds)) (ap suc (two_long c first ∙ sym (two_long d other)))
    ∙ ap (λ o. ordering_then o (slice_cmp nat_cmp (each_after 46 (map cell_text cs)) (each_after 46 (map cell_text ds)))) (cell_bytes c d first other)
    ∙ ap (ordering_then (cell_cmp c d)) (later_cells cs ds (second_so (is_cell c) (list_all is_cell cs) h) (second_so (is_cell d) (list_all is_cell ds) k))

cells_order : (c d : Cell) (cs ds : List Cell) → list_all is_cell (c ∷ cs) ≡ true → list_all is_cell (d ∷ ds) ≡ true → slice_cmp nat_cmp (cells_text (c ∷ cs)) (cells_text (d ∷ ds)) ≡ slice_cmp cell_cmp (c ∷ cs) (d ∷ ds)
cells_order c d cs ds h k =
    let first = first_so (is_cell c) (list_all is_cell cs) h in
    let other = first_so (is_cell d) (list_all is_cell ds) k in
    append_cmp (cell_text c) (cell_text d) (each_after 46 (map cell_text cs)) (each_after 46 (map cell_text ds)) (two_long c first ∙ sym (two_long d other))
    ∙ ap (λ o. ordering_then o (slice_cmp nat_cmp (each_after 46 (map cell_text cs)) (each_after 46 (map cell_text ds)))) (cell_bytes c d first other)
    ∙ ap (ordering_then (cell_cmp c d)) (later_cells cs ds (second_so (is_cell c) (list_all is_cell cs) h) (second_so (is_cell d) (list_all is_cell ds) k))

later_long : (cs : List Cell) → list_all is_cell cs ≡ true → length (each_after 46 (map cell_text cs)) ≡ 3 * length cs
later_long [] h = refl
later_long (c ∷ cs) h =
    let rest = later_long cs (second_so (is_cell c) (list_all is_cell cs) h) in
    let first = two_long c (first_so (is_cell c) (list_all is_cell cs) h) in
    let both = length-append (46 ∷ cell_text c) (each_after 46 (map cell_text cs)) in
    omega (arith, rest, first, both)

-- ====== patterns ======
-- four bytes for each point
pattern_long : (p : Point) (g : List Point) → is_pattern (p ∷ g) ≡ true → length (pattern_text (p ∷ g)) ≡ 4 * length (p ∷ g)
pattern_long p g h =
    let ls = letters_of (p ∷ g) in
    let cs = cells_of g in
    let cells = digit_cells p g h in
    let letters : length (word_text ls) ≡ length ls = letters_long ls (letters_of_word ls (word_of p g h)) in
    let as_many : length ls ≡ length (p ∷ g) = length-map (p ∷ g) letter_of in
    let cells_many : length cs ≡ length g = length-map g cell_of in
    let first = two_long (cell_of p) (first_so (is_cell (cell_of p)) (list_all is_cell cs) cells) in
    let later = later_long cs (second_so (is_cell (cell_of p)) (list_all is_cell cs) cells) in
    let joined = length-append (cell_text (cell_of p)) (each_after 46 (map cell_text cs)) in
    let with_colon = length-append (word_text ls) (codes ":") in
    let whole = length-append (word_text ls ++ codes ":") (cells_text (cell_of p ∷ cs)) in
    omega (arith, letters, as_many, cells_many, first, later, joined, with_colon, whole)

lengths_cmp : (m n : ℕ) → nat_cmp (4 * m) (4 * n) ≡ nat_cmp m n
lengths_cmp m n = grind (arith, nat_tests)

same_long : (p q : Point) (g h : List Point) → is_pattern (p ∷ g) ≡ true → is_pattern (q ∷ h) ≡ true → length (p ∷ g) ≡ length (q ∷ h)
    → slice_cmp nat_cmp (pattern_text (p ∷ g)) (pattern_text (q ∷ h)) ≡ ordering_then (slice_cmp nat_cmp (letters_of (p ∷ g)) (letters_of (q ∷ h))) (slice_cmp cell_cmp (cells_of (p ∷ g)) (cells_of (q ∷ h)))
same_long p q g h first other many =
    let ls = letters_of (p ∷ g) in
    let ms = letters_of (q ∷ h) in
    let digits = letters_of_word ls (word_of p g first) in
    let others = letters_of_word ms (word_of q h other) in
    let letters : length (word_text ls) ≡ length (word_text ms) = letters_long ls digits ∙ length-map (p ∷ g) letter_of ∙ many ∙ sym (length-map (q ∷ h) letter_of) ∙ sym (letters_long ms others) in
    ap (λ t. slice_cmp nat_cmp t (pattern_text (q ∷ h))) (append_assoc (word_text ls) (codes ":") (cells_text (cells_of (p ∷ g))))
    ∙ ap (slice_cmp nat_cmp (word_text ls ++ 58 ∷ cells_text (cells_of (p ∷ g)))) (append_assoc (word_text ms) (codes ":") (cells_text (cells_of (q ∷ h))))
    ∙ append_cmp (word_text ls) (word_text ms) (58 ∷ cells_text (cells_of (p ∷ g))) (58 ∷ cells_text (cells_of (q ∷ h))) letters
    ∙ ap (λ o. ordering_then o (slice_cmp nat_cmp (cells_text (cells_of (p ∷ g))) (cells_text (cells_of (q ∷ h))))) (letters_cmp ls ms digits others)
    ∙ ap (ordering_then (slice_cmp nat_cmp ls ms)) (cells_order (cell_of p) (cell_of q) (cells_of g) (cells_of h) (digit_cells p g first) (digit_cells q h other))

less_than_some : (n : ℕ) (x y : Ordering) → ordering_then (nat_cmp 1 (4 * suc n)) x ≡ ordering_then (nat_cmp 0 (suc n)) y
less_than_some n x y = let e : nat_cmp 1 (4 * suc n) ≡ Less = grind (arith, nat_tests) in let f : nat_cmp 0 (suc n) ≡ Less = grind (arith, nat_tests) in ap (λ o. ordering_then o x) e ∙ sym (ap (λ o. ordering_then o y) f)

more_than_none : (n : ℕ) (x y : Ordering) → ordering_then (nat_cmp (4 * suc n) 1) x ≡ ordering_then (nat_cmp (suc n) 0) y
more_than_none n x y = let e : nat_cmp (4 * suc n) 1 ≡ Greater = grind (arith, nat_tests) in let f : nat_cmp (suc n) 0 ≡ Greater = grind (arith, nat_tests) in ap (λ o. ordering_then o x) e ∙ sym (ap (λ o. ordering_then o y) f)

pub pattern_order : (g h : List Point) → is_pattern g ≡ true → is_pattern h ≡ true → text_cmp (pattern_text g) (pattern_text h) ≡ gridded_cmp g h
pattern_order [] [] first other = refl
pattern_order [] (q ∷ h) first other =
    ap (λ n. ordering_then (nat_cmp 1 n) (slice_cmp nat_cmp (codes "e") (pattern_text (q ∷ h)))) (pattern_long q h other)
    ∙ less_than_some (length h) (slice_cmp nat_cmp (codes "e") (pattern_text (q ∷ h))) Less
pattern_order (p ∷ g) [] first other =
    ap (λ n. ordering_then (nat_cmp n 1) (slice_cmp nat_cmp (pattern_text (p ∷ g)) (codes "e"))) (pattern_long p g first)
    ∙ more_than_none (length g) (slice_cmp nat_cmp (pattern_text (p ∷ g)) (codes "e")) Greater
pattern_order (p ∷ g) (q ∷ h) first other =
    let bytes = slice_cmp nat_cmp (pattern_text (p ∷ g)) (pattern_text (q ∷ h)) in
    ap (λ n. ordering_then (nat_cmp n (length (pattern_text (q ∷ h)))) bytes) (pattern_long p g first)
    ∙ ap (λ n. ordering_then (nat_cmp (4 * length (p ∷ g)) n) bytes) (pattern_long q h other)
    ∙ ap (λ o. ordering_then o bytes) (lengths_cmp (length (p ∷ g)) (length (q ∷ h)))
    ∙ then_if (length (p ∷ g)) (length (q ∷ h)) bytes _ (same_long p q g h first other)

-- ====== lists of items ======
-- the values that are read compare as something of their texts does
module _ {X T : Type 0} (read : Text → Option X) (cmp : X → X → Ordering) (key : Text → T) (by : T → T → Ordering) (two : (t u : Text) (x y : X) → read t ≡ Some x → read u ≡ Some y → cmp x y ≡ by (key t) (key u)) where
  pub read_ascends : (ts : List Text) (xs : List X) → read_all read ts ≡ Some xs → ascending cmp xs ≡ ascending by (map key ts)
  read_ascends [] xs h = ap (ascending cmp) (sym (same_Some [] xs h))
  read_ascends (t ∷ []) xs h =
      let x = bound (λ x. option_map (λ xs. x ∷ xs) (Some [])) (read t) xs h in
      ap (ascending cmp) (sym (same_Some (x.0 ∷ []) xs (x.2)))
  read_ascends (t ∷ u ∷ ts) xs h =
      let x = bound (λ x. option_map (λ xs. x ∷ xs) (read_all read (u ∷ ts))) (read t) xs h in
      let later = mapped (λ xs. x.0 ∷ xs) (read_all read (u ∷ ts)) xs (x.2) in
      let y = bound (λ y. option_map (λ xs. y ∷ xs) (read_all read ts)) (read u) (later.0) (later.1) in
      let rest = mapped (λ xs. y.0 ∷ xs) (read_all read ts) (later.0) (y.2) in
      ap (ascending cmp) (sym (ap (λ ys. x.0 ∷ ys) (rest.2) ∙ later.2))
      ∙ ap (λ o. is_lt o && ascending cmp (y.0 ∷ rest.0)) (two t u (x.0) (y.0) (x.1) (y.1))
      ∙ ap (λ b. is_lt (by (key t) (key u)) && b) (ap (ascending cmp) (rest.2) ∙ read_ascends (u ∷ ts) (later.0) (later.1))

  pub read_compares : (ts us : List Text) (xs ys : List X) → read_all read ts ≡ Some xs → read_all read us ≡ Some ys → slice_cmp cmp xs ys ≡ slice_cmp by (map key ts) (map key us)
  read_compares [] [] xs ys h k = ap (λ zs. slice_cmp cmp zs ys) (sym (same_Some [] xs h)) ∙ ap (slice_cmp cmp []) (sym (same_Some [] ys k))
  read_compares [] (u ∷ us) xs ys h k =
      let y = bound (λ y. option_map (λ ys. y ∷ ys) (read_all read us)) (read u) ys k in
      let later = mapped (λ ys. y.0 ∷ ys) (read_all read us) ys (y.2) in
      ap (λ zs. slice_cmp cmp zs ys) (sym (same_Some [] xs h)) ∙ ap (slice_cmp cmp []) (sym (later.2))
  read_compares (t ∷ ts) [] xs ys h k =
      let x = bound (λ x. option_map (λ xs. x ∷ xs) (read_all read ts)) (read t) xs h in
      let later = mapped (λ xs. x.0 ∷ xs) (read_all read ts) xs (x.2) in
      ap (slice_cmp cmp xs) (sym (same_Some [] ys k)) ∙ ap (λ zs. slice_cmp cmp zs []) (sym (later.2))
  read_compares (t ∷ ts) (u ∷ us) xs ys h k =
      let x = bound (λ x. option_map (λ xs. x ∷ xs) (read_all read ts)) (read t) xs h in
      let y = bound (λ y. option_map (λ ys. y ∷ ys) (read_all read us)) (read u) ys k in
      let first = mapped (λ xs. x.0 ∷ xs) (read_all read ts) xs (x.2) in
      let other = mapped (λ ys. y.0 ∷ ys) (read_all read us) ys (y.2) in
      ap (λ zs. slice_cmp cmp zs ys) (sym (first.2))
      ∙ ap (slice_cmp cmp (x.0 ∷ first.0)) (sym (other.2))
      ∙ ap (λ o. ordering_then o (slice_cmp cmp (first.0) (other.0))) (two t u (x.0) (y.0) (x.1) (y.1))
      ∙ ap (ordering_then (by (key t) (key u))) (read_compares ts us (first.0) (other.0) (first.1) (other.1))

-- each item that is read has its text, and is such a value
by_texts : {X : Type 0} (read : Text → Option X) (text : X → Text) (good : X → Bool) (cmp : X → X → Ordering) → ((t : Text) (x : X) → read t ≡ Some x → (t ≡ text x) × (good x ≡ true))
    → ((x y : X) → good x ≡ true → good y ≡ true → text_cmp (text x) (text y) ≡ cmp x y) → (t u : Text) (x y : X) → read t ≡ Some x → read u ≡ Some y → cmp x y ≡ text_cmp t u
by_texts read text good cmp takes order t u x y h k =
    let first = takes t x h in
    let other = takes u y k in
    sym (order x y (first.1) (other.1)) ∙ ap (λ a. text_cmp a (text y)) (sym (first.0)) ∙ ap (text_cmp t) (sym (other.0))

two_cells : (t u : Text) (c d : Cell) → cell_at t ≡ Some c → cell_at u ≡ Some d → cell_cmp c d ≡ text_cmp t u
two_cells = by_texts cell_at cell_text is_cell cell_cmp (λ t c h. (cell_takes t c h, cell_is t c h)) cell_order

two_words : (t u : Text) (w v : List ℕ) → word_at t ≡ Some w → word_at u ≡ Some v → perm_cmp w v ≡ text_cmp t u
two_words = by_texts word_at word_text is_word perm_cmp word_takes word_order

two_patterns : (t u : Text) (g h : List Point) → pattern_at t ≡ Some g → pattern_at u ≡ Some h → gridded_cmp g h ≡ text_cmp t u
two_patterns = by_texts pattern_at pattern_text is_pattern gridded_cmp pattern_takes pattern_order

pub cells_ascend : (ts : List Text) (cells : List Cell) → read_all cell_at ts ≡ Some cells → ascending cell_cmp cells ≡ ascending text_cmp ts
cells_ascend ts cells h = read_ascends cell_at cell_cmp (λ t. t) text_cmp two_cells ts cells h ∙ ap (ascending text_cmp) (map-id ts)

pub words_ascend : (ts : List Text) (words : List (List ℕ)) → read_all word_at ts ≡ Some words → ascending perm_cmp words ≡ ascending text_cmp ts
words_ascend ts words h = read_ascends word_at perm_cmp (λ t. t) text_cmp two_words ts words h ∙ ap (ascending text_cmp) (map-id ts)

pub patterns_ascend : (ts : List Text) (patterns : List (List Point)) → read_all pattern_at ts ≡ Some patterns → ascending gridded_cmp patterns ≡ ascending text_cmp ts
patterns_ascend ts patterns h = read_ascends pattern_at gridded_cmp (λ t. t) text_cmp two_patterns ts patterns h ∙ ap (ascending text_cmp) (map-id ts)

members_read : (t : Text) (b : Bool) (gs : List (List Point)) → cond b (Some []) (read_all pattern_at (items 124 t)) ≡ Some gs → read_all pattern_at (cond b [] (items 124 t)) ≡ Some gs
members_read t true gs h = h
members_read t false gs h = h

two_lists : (t u : Text) (gs hs : List (List Point)) → list_at t ≡ Some gs → list_at u ≡ Some hs → slice_cmp gridded_cmp gs hs ≡ slice_cmp text_cmp (members_of t) (members_of u)
two_lists t u gs hs h k =
    read_compares pattern_at gridded_cmp (λ t. t) text_cmp two_patterns (members_of t) (members_of u) gs hs (members_read t (same t (codes "x")) gs h) (members_read u (same u (codes "x")) hs k)
    ∙ ap (λ ts. slice_cmp text_cmp ts (map (λ t. t) (members_of u))) (map-id (members_of t))
    ∙ ap (slice_cmp text_cmp (members_of t)) (map-id (members_of u))

pub lists_ascend : (ts : List Text) (lists : List (List (List Point))) → read_all list_at ts ≡ Some lists → ascending (slice_cmp gridded_cmp) lists ≡ ascending (slice_cmp text_cmp) (map members_of ts)
lists_ascend = read_ascends list_at (slice_cmp gridded_cmp) members_of (slice_cmp text_cmp) two_lists
