-- A number has one spelling, and what is read is spelled so.
use Rattle.std.proofs.Common.{◌≡◌, ◌+◌, ◌≤◌, ◌<◌, ◌*◌, ◌-◌, ◌^◌, ◌/◌, ◌%◌, ℕ, zero, suc, List, [], ◌∷◌, ◌++◌, length, get_or, true, arith, refl, ap, sym, ◌∙◌, append-nil, append_assoc, subst, rules, ◌⊎◌, inl, inr}
use Rattle.std.specs.Prelude.{nat_le, Some, decimal}
use Rattle.std.proofs.lemmas.Grind.{common_steps}
use Rattle.std.specs.Cmp.{first_so, second_so}
use Rattle.std.specs.List.{list_all}
use Rattle.std.proofs.lemmas.Str.Parse.{IsNumeralModel, numerals_by_fold, digits_value_short}
use Rattle.std.proofs.lemmas.Fmt.{decimal_is_IsNumeral_wide, decimal_digit, decimal_step_wide, decimal_by_steps_wide, length-decimal-le_wide}
use Rattle.spec_lines.proofs.Taking.{kept}
use Rattle.spec_lines.specs.Readings.{value_after, is_digit_byte, is_led, number_at}

no_smaller : (n : ℕ) (t : List ℕ) → n ≤ value_after n t
no_smaller n [] = omega arith
no_smaller n (b ∷ t) = let more = no_smaller (n * 10 + (b - 48)) t in omega (arith, more)

own : IsNumeralModel (λ t. list_all is_digit_byte t ≡ true) (value_after 0)
own = numerals_by_fold _ (search rules) value_after (search rules)

pub digit_range : (b : ℕ) → is_digit_byte b ≡ true → (48 ≤ b) × (b ≤ 57)
digit_range b h = let low = first_so (nat_le 48 b) (nat_le b 57) h in let high = second_so (nat_le 48 b) (nat_le b 57) h in (grind (arith, common_steps, low), grind (arith, common_steps, high))

tens : (n d : ℕ) → d ≤ 9 → (n * 10 + d) / 10 ≡ n
tens n d h = omega (arith, h)

ones : (n d : ℕ) → d ≤ 9 → (n * 10 + d) % 10 ≡ d
ones n d h = omega (arith, h)

one_behind : (n d : ℕ) → 1 ≤ n → d ≤ 9 → n * 10 + d < 10 ^ 64 → decimal (n * 10 + d) ≡ decimal n ++ (48 + d) ∷ []
one_behind n d some small few = decimal_step_wide (n * 10 + d) (omega (arith, some)) few ∙ ap (λ m. decimal m ++ (48 + (n * 10 + d) % 10) ∷ []) (tens n d small) ∙ ap (λ e. decimal n ++ (48 + e) ∷ []) (ones n d small)

-- digits behind a number that isn't 0
digits_behind : (n : ℕ) (t : List ℕ) → 1 ≤ n → list_all is_digit_byte t ≡ true → value_after n t < 10 ^ 64 → decimal (value_after n t) ≡ decimal n ++ t
digits_behind n [] some h few = sym (append-nil (decimal n))
digits_behind n (b ∷ t) some h few =
    let range = digit_range b (first_so (is_digit_byte b) (list_all is_digit_byte t) h) in
    let small : b - 48 ≤ 9 = omega (arith, range) in
    let back : 48 + (b - 48) ≡ b = omega (arith, range) in
    let least = no_smaller (n * 10 + (b - 48)) t in
    digits_behind (n * 10 + (b - 48)) t (omega (arith, some)) (second_so (is_digit_byte b) (list_all is_digit_byte t) h) few
    ∙ ap (λ front. front ++ t) (one_behind n (b - 48) some small (omega (arith, least, few)) ∙ ap (λ c. decimal n ++ c ∷ []) back)
    ∙ append_assoc (decimal n) (b ∷ []) t

-- digits that don't begin with a zero
led_by : (b : ℕ) (t : List ℕ) → 49 ≤ b → list_all is_digit_byte (b ∷ t) ≡ true → value_after 0 (b ∷ t) < 10 ^ 64 → decimal (value_after 0 (b ∷ t)) ≡ b ∷ t
led_by b t some h few =
    let range = digit_range b (first_so (is_digit_byte b) (list_all is_digit_byte t) h) in
    let first : 0 * 10 + (b - 48) ≡ b - 48 = omega arith in
    let back : 48 + (b - 48) ≡ b = omega (arith, range) in
    ap (λ n. decimal (value_after n t)) first
    ∙ digits_behind (b - 48) t (omega (arith, some)) (second_so (is_digit_byte b) (list_all is_digit_byte t) h) (rw (sym first) few)
    ∙ ap (λ front. front ++ t) (decimal_digit (b - 48) (omega (arith, range)) ∙ ap (λ c. c ∷ []) back)

no_zero : (b c : ℕ) (t : List ℕ) → is_led (b ∷ c ∷ t) ≡ true → list_all is_digit_byte (b ∷ c ∷ t) ≡ true → 49 ≤ b
no_zero b c t led digits =
    let range = digit_range b (first_so (is_digit_byte b) (list_all is_digit_byte (c ∷ t)) digits) in
    grind (arith, common_steps, led, range)

at_most_39 : (t : List ℕ) → is_led t ≡ true → length t ≤ 39
at_most_39 t led = grind (arith, common_steps, led)

-- what leads a text is told by its length and its first byte
leads : (n : ℕ) (ds : List ℕ) → 1 ≤ length ds → length ds ≤ 39 → (length ds ≡ 1) ⊎ (49 ≤ get_or ds 0 0) → is_led ds ≡ true
leads n ds some short (inl one) = grind (arith, common_steps, some, short, one)
leads n ds some short (inr other) = grind (arith, common_steps, some, short, other)

spelled : (t : List ℕ) → is_led t ≡ true → list_all is_digit_byte t ≡ true → value_after 0 t < 10 ^ 64 → decimal (value_after 0 t) ≡ t
spelled [] led digits few = absurd cc
spelled (b ∷ []) led digits few =
    let range = digit_range b (first_so (is_digit_byte b) true digits) in
    let first : 0 * 10 + (b - 48) ≡ b - 48 = omega arith in
    let back : 48 + (b - 48) ≡ b = omega (arith, range) in
    ap decimal first ∙ decimal_digit (b - 48) (omega (arith, range)) ∙ ap (λ d. d ∷ []) back
spelled (b ∷ c ∷ t) led digits few = led_by b (c ∷ t) (no_zero b c t led digits) digits few

pub number_takes : (t : List ℕ) (n : ℕ) → number_at t ≡ Some n → (t ≡ decimal n) × (n < 10 ^ 39)
number_takes t n h =
    let both = kept _ _ n h in
    let led = first_so (is_led t) (list_all is_digit_byte t) (both.0) in
    let digits = second_so (is_led t) (list_all is_digit_byte t) (both.0) in
    let short : length t ≤ 39 = at_most_39 t led in
    let few : value_after 0 t < 10 ^ 39 = digits_value_short own t 39 digits short in
    (sym (spelled t led digits (omega (arith, few))) ∙ ap decimal (both.1), subst (λ m. m < 10 ^ 39) (both.1) few)

first_digit : (n : ℕ) → n < 10 ^ 64 → (1 ≤ length (decimal n)) × (1 ≤ n → 49 ≤ get_or (decimal n) 0 0)
first_digit n few = decimal_by_steps_wide (λ n ds. (1 ≤ length ds) × (1 ≤ n → 49 ≤ get_or ds 0 0)) (λ n h. (omega arith, λ some. omega (arith, some))) more n few where
  more : (n : ℕ) (ds : List ℕ) → 10 ≤ n → (1 ≤ length ds) × (1 ≤ n / 10 → 49 ≤ get_or ds 0 0) → (1 ≤ length (ds ++ (48 + n % 10) ∷ [])) × (1 ≤ n → 49 ≤ get_or (ds ++ (48 + n % 10) ∷ []) 0 0)
  more n [] large h = absurd (let none = h.0 in omega (arith, none))
  more n (d ∷ ds) large h = (omega arith, λ some. h.1 (omega (arith, large)))

zero_or_more : (n : ℕ) → (1 ≤ length (decimal n)) × (1 ≤ n → 49 ≤ get_or (decimal n) 0 0) → (length (decimal n) ≡ 1) ⊎ (49 ≤ get_or (decimal n) 0 0)
zero_or_more zero first = inl (ap (λ (ds : List ℕ). length ds) (decimal_digit 0 (omega arith)))
zero_or_more (suc n) first = inr (first.1 (omega arith))

pub decimal_digits : (n : ℕ) → n < 10 ^ 39 → list_all is_digit_byte (decimal n) ≡ true
decimal_digits n few = own.from (decimal n) ((decimal_is_IsNumeral_wide n (omega (arith, few))).0.1)

pub number_again : (n : ℕ) → n < 10 ^ 39 → number_at (decimal n) ≡ Some n
number_again n few =
    let wide : n < 10 ^ 64 = omega (arith, few) in
    let numeral = decimal_is_IsNumeral_wide n wide in
    let digits : list_all is_digit_byte (decimal n) ≡ true = own.from (decimal n) (numeral.0.1) in
    let value : value_after 0 (decimal n) ≡ n = own.same (decimal n) (numeral.0.1) ∙ numeral.1 in
    let short : length (decimal n) ≤ 39 = length-decimal-le_wide 39 n (omega arith) few wide in
    let first = first_digit n wide in
    let led : is_led (decimal n) ≡ true = leads n (decimal n) (first.0) short (zero_or_more n first) in
    rw (led, digits, value) refl
