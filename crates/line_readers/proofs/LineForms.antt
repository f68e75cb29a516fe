-- Lines, by what their items are read as.
use Rattle.std.proofs.Common.{◌≡◌, ◌≤◌, ◌<◌, ◌+◌, ◌*◌, ◌-◌, ◌^◌, ℕ, zero, suc, Bool, true, false, cond, List, [], ◌∷◌, length, map, refl, ap, sym, subst, ◌∙◌, arith, zero-add, lit≤}
use Rattle.std.specs.Prelude.{◌&&◌, not, nat_lt, nat_le, nat_eq, codes, Option, Some, None, option_map, option_and_then}
use Rattle.std.specs.Cmp.{first_so, second_so}
use Rattle.std.specs.Cmp.Lexicographic.{slice_cmp}
use Rattle.std.specs.List.{list_all}
use Rattle.std.proofs.Math.Nat.{pow-le-pow_right}
use Rattle.std.proofs.lemmas.Bool.Decides.{nat_tests}
use Rattle.std.proofs.lemmas.Grind.{common_steps}
use Rattle.std.proofs.lemmas.Option.{none-some, same_Some}
use Rattle.gridded.specs.declared.cell.Cell.{Cell}
use Rattle.gridded.specs.Grids.{Point}
use Rattle.gridded.specs.Orders.{cells_of, gridded_cmp}
use Rattle.perm_core.specs.Orders.{perm_cmp}
use Rattle.steps.specs.declared.step.Step.{Step}
use Rattle.steps.specs.declared.step.Step.TheVariants as steps
use Rattle.spec_lines.specs.Lines.{Text}
use Rattle.spec_lines.specs.Forms.{Line, is_line, has_items, ascending, is_word, is_cell, is_digit, is_number, is_pattern, is_patterns, is_step}
use Rattle.spec_lines.specs.Forms.Line.{Basis, Root, Count, Entry, Grid, Obstructions, Requirements, Child}
use Rattle.spec_lines.specs.Follows.Place.{AtBasis, AtRoot, AtCount, AtEntry, AtGrid, AtObstructions, AtRequirements, AtChild}
use Rattle.spec_lines.specs.Items.{keep_if, same, items, read_all, dashed, behind}
use Rattle.spec_lines.specs.Readings.{is_digit_byte, is_led, digit_at, cell_at, value_after, number_at, word_at, letters_at, pattern_at, gridded_at, list_at, step_at, line_at, value_at, child_of, basis_of, grid_of, entry_of, count_of}
use Rattle.spec_lines.specs.Ranges.{is_inside, is_short}
use Rattle.line_readers.specs.Kept.{where_it}
use Rattle.line_readers.specs.LineItems.{words_of, one_number, two_numbers, entry_numbers, child_items}
use Rattle.line_readers.proofs.Wide.{all_kept, digit_small, cell_digits}
use Rattle.line_readers.proofs.Values.{one_more}
use Rattle.line_readers.proofs.Conditions.{some_read}
use Rattle.line_readers.proofs.Cutting.{some_items}

-- ---- what holds of each item that is read
pub kept : {X : Type 0} (b : Bool) (x y : X) → keep_if b x ≡ Some y → (b ≡ true) × (x ≡ y)
kept true x y h = (refl, same_Some x y h)
kept false x y h = absurd (none-some y h)

below_power : (n i : ℕ) (t : Text) → n < 10 ^ i → list_all is_digit_byte t ≡ true → value_after n t < 10 ^ (i + length t)
below_power n i [] few digits = subst (λ k. n < 10 ^ k) (let e : i ≡ i + 0 = omega arith in e) few
below_power n i (b ∷ t) few digits =
    let low = first_so (nat_le 48 b) (nat_le b 57) (first_so (is_digit_byte b) (list_all is_digit_byte t) digits) in
    let high = second_so (nat_le 48 b) (nat_le b 57) (first_so (is_digit_byte b) (list_all is_digit_byte t) digits) in
    let most : b ≤ 57 = grind (arith, common_steps, high) in
    let small : b - 48 ≤ 9 = omega (arith, most) in
    subst (λ k. value_after n (b ∷ t) < 10 ^ k) (let e : i + 1 + length t ≡ i + suc (length t) = omega arith in e)
    (below_power (n * 10 + (b - 48)) (i + 1) t (one_more n (b - 48) i few small) (second_so (is_digit_byte b) (list_all is_digit_byte t) digits))

at_most_39 : (t : Text) → is_led t ≡ true → length t ≤ 39
at_most_39 t led = grind (arith, common_steps, led)

pub number_small : (t : Text) (n : ℕ) → number_at t ≡ Some n → is_number n ≡ true
number_small t n h =
    let both = kept (is_led t && list_all is_digit_byte t) (value_after 0 t) n h in
    let led = first_so (is_led t) (list_all is_digit_byte t) (both.0) in
    let digits = second_so (is_led t) (list_all is_digit_byte t) (both.0) in
    let short = at_most_39 t led in
    let few = below_power 0 0 t (let f : 0 < 10 ^ 0 = omega arith in f) digits in
    let few2 : value_after 0 t < 10 ^ length t = subst (λ k. value_after 0 t < 10 ^ k) (zero-add (length t)) few in
    let power : 10 ^ length t ≤ 10 ^ 39 = pow-le-pow_right (lit≤ tt) short in
    let most : n < 10 ^ 39 = subst (λ m. m < 10 ^ 39) (both.1) (omega (arith, few2, power)) in
    grind (arith, nat_tests, most)

pub step_fits : (t : Text) (s : Step) → step_at t ≡ Some s → is_step s ≡ true
step_fits [] s h = absurd (none-some s h)
step_fits (k ∷ []) s h = one (nat_eq k 86) (nat_eq k 77) (nat_eq k 76) h
  where
    one : (a b c : Bool) → cond a (Some steps.Void) (cond b (Some steps.Min) (cond c (Some steps.Lists) None)) ≡ Some s → is_step s ≡ true
    one true b c h = ap is_step (sym (same_Some steps.Void s h))
    one false true c h = ap is_step (sym (same_Some steps.Min s h))
    one false false true h = ap is_step (sym (same_Some steps.Lists s h))
    one false false false h = absurd (none-some s h)
step_fits (k ∷ a ∷ []) s h = two (digit_at a) refl (nat_eq k 67) (nat_eq k 82) h
  where
    two : (d : Option ℕ) → digit_at a ≡ d → (b c : Bool) → option_and_then (λ x. cond b (Some (steps.Column x)) (cond c (Some (steps.Row x)) None)) d ≡ Some s → is_step s ≡ true
    two None e b c h = absurd (none-some s h)
    two (Some x) e true c h = ap is_step (sym (same_Some (steps.Column x) s h)) ∙ digit_small a x e
    two (Some x) e false true h = ap is_step (sym (same_Some (steps.Row x) s h)) ∙ digit_small a x e
    two (Some x) e false false h = absurd (none-some s h)
step_fits (k ∷ a ∷ b ∷ []) s h = three (cell_at (a ∷ b ∷ [])) refl (nat_eq k 75) h
  where
    three : (o : Option Cell) → cell_at (a ∷ b ∷ []) ≡ o → (c : Bool) → cond c (option_map steps.Clean o) None ≡ Some s → is_step s ≡ true
    three o e false h = absurd (none-some s h)
    three None e true h = absurd (none-some s h)
    three (Some x) e true h = ap is_step (sym (same_Some (steps.Clean x) s h)) ∙ cell_digits (a ∷ b ∷ []) x e
step_fits (k ∷ a ∷ b ∷ d ∷ t) s h = absurd (none-some s h)

pub word_fits : (t : Text) (w : List ℕ) → word_at t ≡ Some w → is_word w ≡ true
word_fits t w h = split (letters_at t) h
  where
    split : (o : Option (List ℕ)) → option_and_then (λ v. keep_if (is_word v) v) o ≡ Some w → is_word w ≡ true
    split None e = absurd (none-some w e)
    split (Some v) e = let both = kept (is_word v) v w e in ap is_word (sym (both.1)) ∙ both.0

-- ---- none, or those that are read
pub dashed_kept : {X : Type 0} (read : Text → Option X) (p : X → Bool) → ((t : Text) (x : X) → read t ≡ Some x → p x ≡ true) → (ts : List Text) (xs : List X) → dashed read ts ≡ Some xs → list_all p xs ≡ true
dashed_kept read p each [] xs h = absurd (none-some xs h)
dashed_kept {X = X} read p each (t ∷ ts) xs h = split (same t (codes "-") && not (has_items ts)) h
  where
    split : (b : Bool) → cond b (Some []) (read_all read (t ∷ ts)) ≡ Some xs → list_all p xs ≡ true
    split true e = ap (list_all p) (sym (same_Some [] xs e))
    split false e = all_kept read p each (t ∷ ts) xs e

-- ---- each line
pub root_by : (t : Text) → line_at AtRoot t ≡ option_map Root (option_and_then (dashed step_at) (behind (codes "root") (items 32 t)))
root_by t = split (behind (codes "root") (items 32 t))
  where
    trace : (o : Option (List Step)) → ((xs : List Step) → o ≡ Some xs → list_all is_step xs ≡ true) → where_it is_line (option_map Root o) ≡ option_map Root o
    trace None fit = refl
    trace (Some xs) fit = ap (λ b. keep_if b (Root xs)) (fit xs refl)

    split : (o : Option (List Text)) → where_it is_line (option_and_then (λ ts. option_map Root (dashed step_at ts)) o) ≡ option_map Root (option_and_then (dashed step_at) o)
    split None = refl
    split (Some ts) = trace (dashed step_at ts) (λ xs e. dashed_kept step_at is_step step_fits ts xs e)

pub count_by : (t : Text) → line_at AtCount t ≡ option_map Count (option_and_then one_number (behind (codes "entries") (items 32 t)))
count_by t = split (behind (codes "entries") (items 32 t))
  where
    number : (o : Option ℕ) → ((n : ℕ) → o ≡ Some n → is_number n ≡ true) → where_it is_line (option_map Count o) ≡ option_map Count o
    number None fit = refl
    number (Some n) fit = ap (λ b. keep_if b (Count n)) (fit n refl)

    split : (o : Option (List Text)) → where_it is_line (option_and_then count_of o) ≡ option_map Count (option_and_then one_number o)
    split None = refl
    split (Some []) = refl
    split (Some (u ∷ [])) = number (number_at u) (λ n e. number_small u n e)
    split (Some (u ∷ v ∷ ts)) = refl

both : (a b : Bool) → a ≡ true → b ≡ true → (a && b) ≡ true
both a b h k = rw (h, k) refl

pub grid_by : (t : Text) → line_at (AtGrid 0 0) t ≡ option_map (λ (p : ℕ × ℕ). Grid p.0 p.1) (option_and_then two_numbers (behind (codes "grid") (items 32 t)))
grid_by t = split (behind (codes "grid") (items 32 t))
  where
    pair : (o q : Option ℕ) → ((n : ℕ) → o ≡ Some n → is_number n ≡ true) → ((n : ℕ) → q ≡ Some n → is_number n ≡ true) → where_it is_line (option_and_then (λ width. option_map (λ height. Grid width height) q) o) ≡ option_map (λ (p : ℕ × ℕ). Grid p.0 p.1) (option_and_then (λ x. option_map (λ y. (x, y)) q) o)
    pair None q f g = refl
    pair (Some n) None f g = refl
    pair (Some n) (Some m) f g = ap (λ b. keep_if b (Grid n m)) (both (is_number n) (is_number m) (f n refl) (g m refl))

    split : (o : Option (List Text)) → where_it is_line (option_and_then grid_of o) ≡ option_map (λ (p : ℕ × ℕ). Grid p.0 p.1) (option_and_then two_numbers o)
    split None = refl
    split (Some []) = refl
    split (Some (a ∷ [])) = refl
    split (Some (a ∷ b ∷ [])) = pair (number_at a) (number_at b) (λ n e. number_small a n e) (λ n e. number_small b n e)
    split (Some (a ∷ b ∷ c ∷ ts)) = refl

pub entry_by : (t : Text) (i : ℕ) → line_at (AtEntry i 0) t ≡ option_map (λ (p : ℕ × ℕ). Entry p.0 p.1) (option_and_then entry_numbers (behind (codes "entry") (items 32 t)))
entry_by t i = split (behind (codes "entry") (items 32 t))
  where
    pair : (c : Bool) (o q : Option ℕ) → ((n : ℕ) → o ≡ Some n → is_number n ≡ true) → ((n : ℕ) → q ≡ Some n → is_number n ≡ true) → where_it is_line (option_and_then (λ number. option_and_then (λ rank. cond c (Some (Entry number rank)) None) q) o) ≡ option_map (λ (p : ℕ × ℕ). Entry p.0 p.1) (cond c (option_and_then (λ x. option_map (λ y. (x, y)) q) o) None)
    pair true None q f g = refl
    pair true (Some n) None f g = refl
    pair true (Some n) (Some m) f g = ap (λ b. keep_if b (Entry n m)) (both (is_number n) (is_number m) (f n refl) (g m refl))
    pair false None q f g = refl
    pair false (Some n) None f g = refl
    pair false (Some n) (Some m) f g = refl

    split : (o : Option (List Text)) → where_it is_line (option_and_then entry_of o) ≡ option_map (λ (p : ℕ × ℕ). Entry p.0 p.1) (option_and_then entry_numbers o)
    split None = refl
    split (Some []) = refl
    split (Some (a ∷ [])) = refl
    split (Some (a ∷ w ∷ [])) = refl
    split (Some (a ∷ w ∷ b ∷ [])) = pair (same w (codes "rank")) (number_at a) (number_at b) (λ n e. number_small a n e) (λ n e. number_small b n e)
    split (Some (a ∷ w ∷ b ∷ c ∷ ts)) = refl

pub child_by : (t : Text) → line_at (AtChild 0 0 0) t ≡ option_map (λ (p : ℕ × List Step). Child p.0 p.1) (option_and_then child_items (behind (codes "to") (items 32 t)))
child_by t = split (behind (codes "to") (items 32 t))
  where
    pair : (o : Option ℕ) (q : Option (List Step)) → ((n : ℕ) → o ≡ Some n → is_number n ≡ true) → ((xs : List Step) → q ≡ Some xs → list_all is_step xs ≡ true) → where_it is_line (option_and_then (λ child. option_map (Child child) q) o) ≡ option_map (λ (p : ℕ × List Step). Child p.0 p.1) (option_and_then (λ x. option_map (λ y. (x, y)) q) o)
    pair None q f g = refl
    pair (Some n) None f g = refl
    pair (Some n) (Some xs) f g = ap (λ b. keep_if b (Child n xs)) (both (is_number n) (list_all is_step xs) (f n refl) (g xs refl))

    split : (o : Option (List Text)) → where_it is_line (option_and_then child_of o) ≡ option_map (λ (p : ℕ × List Step). Child p.0 p.1) (option_and_then child_items o)
    split None = refl
    split (Some []) = refl
    split (Some (c ∷ ts)) = pair (number_at c) (dashed step_at ts) (λ n e. number_small c n e) (λ xs e. dashed_kept step_at is_step step_fits ts xs e)

three_tests : (a b c : Bool) → a ≡ true → b ≡ true → (a && b && c) ≡ c
three_tests a b c h k = rw (h, k) refl

pub basis_by : (t : Text) → line_at AtBasis t ≡ option_map Basis (where_it (ascending perm_cmp) (option_and_then words_of (behind (codes "basis") (items 32 t))))
basis_by t = split (behind (codes "basis") (items 32 t))
  where
    words : (o : Option (List (List ℕ))) → ((xs : List (List ℕ)) → o ≡ Some xs → has_items xs ≡ true) → ((xs : List (List ℕ)) → o ≡ Some xs → list_all is_word xs ≡ true) → where_it is_line (option_map Basis o) ≡ option_map Basis (where_it (ascending perm_cmp) o)
    words None f g = refl
    words (Some xs) f g = ap (λ b. keep_if b (Basis xs)) (three_tests (has_items xs) (list_all is_word xs) (ascending perm_cmp xs) (f xs refl) (g xs refl)) ∙ moved (ascending perm_cmp xs)
      where
        moved : (b : Bool) → keep_if b (Basis xs) ≡ option_map Basis (keep_if b xs)
        moved true = refl
        moved false = refl

    split : (o : Option (List Text)) → where_it is_line (option_and_then basis_of o) ≡ option_map Basis (where_it (ascending perm_cmp) (option_and_then words_of o))
    split None = refl
    split (Some []) = refl
    split (Some (u ∷ [])) = words (read_all word_at (items 44 u)) (λ xs e. some_read word_at (items 44 u) xs e ∙ some_items 44 u) (λ xs e. all_kept word_at is_word word_fits (items 44 u) xs e)
    split (Some (u ∷ v ∷ ts)) = refl

-- ---- what a line has is not empty
some_length : {X : Type 0} (xs : List X) → has_items xs ≡ true → 1 ≤ length xs
some_length [] h = absurd cc
some_length (x ∷ xs) h = omega arith

pub basis_some : (t : Text) (words : List (List ℕ)) → where_it (ascending perm_cmp) (option_and_then words_of (behind (codes "basis") (items 32 t))) ≡ Some words → 1 ≤ length words
basis_some t words h = split (behind (codes "basis") (items 32 t)) h
  where
    read : (u : Text) (o : Option (List (List ℕ))) → ((xs : List (List ℕ)) → o ≡ Some xs → has_items xs ≡ true) → where_it (ascending perm_cmp) o ≡ Some words → 1 ≤ length words
    read u None f e = absurd (none-some words e)
    read u (Some xs) f e =
        let both = kept (ascending perm_cmp xs) xs words e in
        some_length words (ap has_items (sym (both.1)) ∙ f xs refl)

    split : (o : Option (List Text)) → where_it (ascending perm_cmp) (option_and_then words_of o) ≡ Some words → 1 ≤ length words
    split None e = absurd (none-some words e)
    split (Some []) e = absurd (none-some words e)
    split (Some (u ∷ [])) e = read u (read_all word_at (items 44 u)) (λ xs f. some_read word_at (items 44 u) xs f ∙ some_items 44 u) e
    split (Some (u ∷ v ∷ ts)) e = absurd (none-some words e)
