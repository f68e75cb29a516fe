-- Tests that all bytes of a text pass.
use Rattle.std.proofs.Common.{◌≡◌, ℕ, Bool, true, false, List, [], ◌∷◌, ◌++◌, refl, sym, subst, ◌∙◌, true≢false, arith}
use Rattle.std.specs.Prelude.{not, nat_eq, nat_lt}
use Rattle.std.specs.List.{list_all}
use Rattle.std.specs.Cmp.{first_so, second_so}
use Rattle.std.proofs.lemmas.Bool.{and_from}
use Rattle.std.proofs.lemmas.Grind.{common_steps}
use Rattle.spec_lines.specs.Lines.{Text, separated, each_after}
use Rattle.spec_lines.specs.Readings.{is_digit_byte}

-- the byte isn't in the text
abbrev pub is_free : ℕ → Text → Bool
is_free byte t = list_all (λ b. not (nat_eq b byte)) t

-- no byte is a blank or smaller
abbrev pub is_dark : Text → Bool
is_dark t = list_all (λ b. nat_lt 32 b) t

-- a test that implies another
pub all_also : (f g : ℕ → Bool) → ((b : ℕ) → f b ≡ true → g b ≡ true) → (t : Text) → list_all f t ≡ true → list_all g t ≡ true
all_also f g h [] e = refl
all_also f g h (b ∷ t) e = and_from (g b) (list_all g t) (h b (first_so (f b) (list_all f t) e)) (all_also f g h t (second_so (f b) (list_all f t) e))

pub all_append : (f : ℕ → Bool) (a b : Text) → list_all f a ≡ true → list_all f b ≡ true → list_all f (a ++ b) ≡ true
all_append f [] b h k = k
all_append f (x ∷ a) b h k = and_from (f x) (list_all f (a ++ b)) (first_so (f x) (list_all f a) h) (all_append f a b (second_so (f x) (list_all f a) h) k)

pub all_each : (f : ℕ → Bool) (byte : ℕ) (ts : List Text) → f byte ≡ true → list_all (list_all f) ts ≡ true → list_all f (each_after byte ts) ≡ true
all_each f byte [] e h = refl
all_each f byte (t ∷ ts) e h =
    all_append f (byte ∷ t) (each_after byte ts) (and_from (f byte) (list_all f t) e (first_so (list_all f t) (list_all (list_all f) ts) h)) (all_each f byte ts e (second_so (list_all f t) (list_all (list_all f) ts) h))

pub all_separated : (f : ℕ → Bool) (byte : ℕ) (ts : List Text) → f byte ≡ true → list_all (list_all f) ts ≡ true → list_all f (separated byte ts) ≡ true
all_separated f byte [] e h = refl
all_separated f byte (t ∷ ts) e h = all_append f t (each_after byte ts) (first_so (list_all f t) (list_all (list_all f) ts) h) (all_each f byte ts e (second_so (list_all f t) (list_all (list_all f) ts) h))

-- ====== digits ======
-- a byte that isn't a digit's
pub no_digit : (b c : ℕ) → is_digit_byte c ≡ false → is_digit_byte b ≡ true → not (nat_eq b c) ≡ true
no_digit b c other digit = by_test (nat_eq b c) (λ same. let e : b ≡ c = grind (arith, common_steps, same) in subst (λ x. is_digit_byte x ≡ true) e digit) other where
  by_test : (t : Bool) → (t ≡ true → is_digit_byte c ≡ true) → is_digit_byte c ≡ false → not t ≡ true
  by_test true h other = absurd (true≢false (sym (h refl) ∙ other))
  by_test false h other = refl

pub digits_are_free : (c : ℕ) (t : Text) → is_digit_byte c ≡ false → list_all is_digit_byte t ≡ true → is_free c t ≡ true
digits_are_free c t other h = all_also is_digit_byte (λ b. not (nat_eq b c)) (λ b digit. no_digit b c other digit) t h

pub digit_is_dark : (b : ℕ) → is_digit_byte b ≡ true → nat_lt 32 b ≡ true
digit_is_dark b h = grind (arith, common_steps, h)

pub digits_are_dark : (t : Text) → list_all is_digit_byte t ≡ true → is_dark t ≡ true
digits_are_dark t h = all_also is_digit_byte (λ b. nat_lt 32 b) digit_is_dark t h

-- ====== blanks and line feeds ======
dark_free : (byte : ℕ) (b : ℕ) → nat_lt 32 byte ≡ false → nat_lt 32 b ≡ true → not (nat_eq b byte) ≡ true
dark_free byte b low dark = by_test (nat_eq b byte) (λ same. let e : b ≡ byte = grind (arith, common_steps, same) in subst (λ x. nat_lt 32 x ≡ true) e dark) low where
  by_test : (t : Bool) → (t ≡ true → nat_lt 32 byte ≡ true) → nat_lt 32 byte ≡ false → not t ≡ true
  by_test true h low = absurd (true≢false (sym (h refl) ∙ low))
  by_test false h low = refl

pub dark_is_free : (byte : ℕ) (t : Text) → nat_lt 32 byte ≡ false → is_dark t ≡ true → is_free byte t ≡ true
dark_is_free byte t low h = all_also (λ b. nat_lt 32 b) (λ b. not (nat_eq b byte)) (λ b dark. dark_free byte b low dark) t h

pub darks_are_free : (byte : ℕ) (ts : List Text) → nat_lt 32 byte ≡ false → list_all is_dark ts ≡ true → list_all (is_free byte) ts ≡ true
darks_are_free byte [] low h = refl
darks_are_free byte (t ∷ ts) low h = and_from (is_free byte t) (list_all (is_free byte) ts) (dark_is_free byte t low (first_so (is_dark t) (list_all is_dark ts) h)) (darks_are_free byte ts low (second_so (is_dark t) (list_all is_dark ts) h))
