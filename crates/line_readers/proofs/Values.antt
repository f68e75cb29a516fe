-- Numbers digit by digit, and in two parts.
use Rattle.std.proofs.Common.{◌≡◌, ◌+◌, ◌≤◌, ◌<◌, ◌*◌, ◌-◌, ◌^◌, ℕ, suc, zero, Bool, true, false, List, [], ◌∷◌, ◌++◌, length, drop, take, get_or, arith, ap, refl, sym, ◌∙◌, add-one, lit≤, length-drop}
use Rattle.std.specs.Prelude.{◌&&◌, Option, Some, None, nat_le}
use Rattle.std.specs.Cmp.{first_so, second_so}
use Rattle.std.specs.List.{list_all}
use Rattle.std.proofs.Math.Nat.{pow-suc, pow-le-pow_right}
use Rattle.std.proofs.lemmas.Grind.{common_steps}
use Rattle.std.proofs.lemmas.List.{drop_more, take-append-drop}
use Rattle.std.proofs.lemmas.List.Folds.{list_all-append}
use Rattle.std.proofs.lemmas.Option.{none-some, same_Some}
use Rattle.spec_lines.specs.Items.{keep_if}
use Rattle.spec_lines.specs.Readings.{value_after, is_digit_byte, is_led, number_at}

from_place : (t : List ℕ) (i : ℕ) → i < length t → drop i t ≡ get_or t i 0 ∷ drop (i + 1) t
from_place t i h = drop_more t i 0 h

pub one_digit : (n : ℕ) (t : List ℕ) (i : ℕ) → i < length t → value_after n (drop i t) ≡ value_after (n * 10 + (get_or t i 0 - 48)) (drop (i + 1) t)
one_digit n t i h = ap (value_after n) (from_place t i h)

pub one_test : (t : List ℕ) (i : ℕ) → i < length t → list_all is_digit_byte (drop i t) ≡ is_digit_byte (get_or t i 0) && list_all is_digit_byte (drop (i + 1) t)
one_test t i h = ap (list_all is_digit_byte) (from_place t i h)

-- one digit more keeps a number below the power of as many digits
pub one_more : (n d i : ℕ) → n < 10 ^ i → d ≤ 9 → n * 10 + d < 10 ^ (i + 1)
one_more n d i few digit = rw (add-one) (omega (arith, pow-suc 10 i))

-- and there is room for it
pub room : (n i : ℕ) → n < 10 ^ i → i < 20 → n < 10 ^ 19
room n i few short = let power : 10 ^ i ≤ 10 ^ 19 = pow-le-pow_right (lit≤ tt) (let h : i ≤ 19 = omega arith in h) in omega arith

-- a number before further digits
pub value_before : (n : ℕ) (t : List ℕ) → value_after n t ≡ n * 10 ^ length t + value_after 0 t
value_before n [] = omega arith
value_before n (b ∷ t) = omega (arith, ap (λ p. n * p) (pow-suc 10 (length t)), value_before (n * 10 + (b - 48)) t, value_before (0 * 10 + (b - 48)) t)

value_joined : (n : ℕ) (a b : List ℕ) → value_after n (a ++ b) ≡ value_after (value_after n a) b
value_joined n [] b = refl
value_joined n (x ∷ a) b = value_joined (n * 10 + (x - 48)) a b

-- the digits before the last 20, and those
pub in_two : (front back : List ℕ) → (length back ≡ 20) → value_after 0 (front ++ back) ≡ value_after 0 front * 100000000000000000000 + value_after 0 back
in_two front back as_long = value_joined 0 front back ∙ value_before (value_after 0 front) back ∙ ap (λ n. value_after 0 front * 10 ^ n + value_after 0 back) as_long

kept : {X : Type 0} (b : Bool) (x y : X) → keep_if b x ≡ Some y → (b ≡ true) × (x ≡ y)
kept true x y h = (refl, same_Some x y h)
kept false x y h = absurd (none-some y h)

not_kept : {X : Type 0} (b : Bool) (x : X) → keep_if b x ≡ None → b ≡ false
not_kept true x h = absurd cc
not_kept false x h = refl

-- ---- a number in two parts, where k digits stand before the last 20
split_test : (t : List ℕ) (k : ℕ) → list_all is_digit_byte t ≡ list_all is_digit_byte (take k t) && list_all is_digit_byte (drop k t)
split_test t k = ap (list_all is_digit_byte) (sym (take-append-drop k t)) ∙ list_all-append is_digit_byte (take k t) (drop k t)

and_false_left : (a b c : Bool) → b ≡ false → (a && (b && c)) ≡ false
and_false_left true b c h = rw h refl
and_false_left false b c h = refl

and_false_right : (a b c : Bool) → c ≡ false → (a && (b && c)) ≡ false
and_false_right true true c h = h
and_false_right true false c h = refl
and_false_right false b c h = refl

pub not_led : (t : List ℕ) → is_led t ≡ false → number_at t ≡ None
not_led t h = ap (λ b. keep_if (b && list_all is_digit_byte t) (value_after 0 t)) h

pub front_unread : (t : List ℕ) (k : ℕ) → keep_if (list_all is_digit_byte (take k t)) (value_after 0 (take k t)) ≡ None → number_at t ≡ None
front_unread t k h = ap (λ b. keep_if b (value_after 0 t)) (ap (λ d. is_led t && d) (split_test t k) ∙ and_false_left (is_led t) (list_all is_digit_byte (take k t)) (list_all is_digit_byte (drop k t)) (not_kept (list_all is_digit_byte (take k t)) (value_after 0 (take k t)) h))

pub back_unread : (t : List ℕ) (k : ℕ) → keep_if (list_all is_digit_byte (drop k t)) (value_after 0 (drop k t)) ≡ None → number_at t ≡ None
back_unread t k h = ap (λ b. keep_if b (value_after 0 t)) (ap (λ d. is_led t && d) (split_test t k) ∙ and_false_right (is_led t) (list_all is_digit_byte (take k t)) (list_all is_digit_byte (drop k t)) (not_kept (list_all is_digit_byte (drop k t)) (value_after 0 (drop k t)) h))

value_split : (t : List ℕ) (k : ℕ) → k ≡ length t - 20 → value_after 0 t ≡ value_after 0 (take k t) * 100000000000000000000 + value_after 0 (drop k t)
value_split t zero e = omega arith
value_split t (suc k) e = ap (value_after 0) (sym (take-append-drop (suc k) t)) ∙ in_two (take (suc k) t) (drop (suc k) t) (omega (arith, e, length-drop (suc k) t))

pub both_read : (t : List ℕ) (k front back : ℕ) → k ≡ length t - 20 → is_led t ≡ true → keep_if (list_all is_digit_byte (take k t)) (value_after 0 (take k t)) ≡ Some front → keep_if (list_all is_digit_byte (drop k t)) (value_after 0 (drop k t)) ≡ Some back → number_at t ≡ Some (front * 100000000000000000000 + back)
both_read t k front back e led h g =
    let first = kept (list_all is_digit_byte (take k t)) (value_after 0 (take k t)) front h in
    let second = kept (list_all is_digit_byte (drop k t)) (value_after 0 (drop k t)) back g in
    let digits : list_all is_digit_byte t ≡ true = split_test t k ∙ both_true (list_all is_digit_byte (take k t)) (list_all is_digit_byte (drop k t)) (first.0) (second.0) in
    ap (λ b. keep_if b (value_after 0 t)) (both_true (is_led t) (list_all is_digit_byte t) led digits)
    ∙ ap (λ n. Some n) (value_split t k e ∙ ap (λ n. n * 100000000000000000000 + value_after 0 (drop k t)) (first.1) ∙ ap (λ n. front * 100000000000000000000 + n) (second.1))
  where
    both_true : (a b : Bool) → a ≡ true → b ≡ true → (a && b) ≡ true
    both_true a b p q = rw (p, q) refl
