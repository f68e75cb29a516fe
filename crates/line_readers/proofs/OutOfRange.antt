-- Quantities in and out of their ranges.
use Rattle.std.proofs.Common.{◌≡◌, ◌≤◌, ◌<◌, ◌^◌, ℕ, Bool, true, false, List, map, refl, sym, ◌∙◌, arith}
use Rattle.std.specs.Prelude.{◌&&◌, nat_le, nat_lt}
use Rattle.std.proofs.lemmas.Bool.Decides.{nat_tests}
use Rattle.spec_lines.specs.Ranges.{is_from_1_to}
use Rattle.line_readers.proofs.ListForms.{map_same}

pub too_many : (most n : ℕ) → most < n → is_from_1_to most n ≡ false
too_many most n far = let past : nat_le n most ≡ false = grind (arith, nat_tests, far) in not_second (nat_le 1 n) (nat_le n most) past
  where
    not_second : (a b : Bool) → b ≡ false → (a && b) ≡ false
    not_second true b h = h
    not_second false b h = refl

pub in_between : (most n : ℕ) → 1 ≤ n → n ≤ most → is_from_1_to most n ≡ true
in_between most n some few =
    let low : nat_le 1 n ≡ true = grind (arith, nat_tests, some) in
    let high : nat_le n most ≡ true = grind (arith, nat_tests, few) in
    rw (low, high) refl

pub not_first : (a b : Bool) → a ≡ false → (a && b) ≡ false
not_first a b h = rw h refl

pub not_second : (a b : Bool) → b ≡ false → (a && b) ≡ false
not_second true b h = h
not_second false b h = refl

pub both : (a b : Bool) → a ≡ true → b ≡ true → (a && b) ≡ true
both a b h k = rw (h, k) refl

pub at_most : (n most : ℕ) → n ≤ most → nat_le n most ≡ true
at_most n most h = grind (arith, nat_tests, h)

pub over : (n most : ℕ) → most < n → nat_le n most ≡ false
over n most h = grind (arith, nat_tests, h)

pub same_items : {X : Type 0} (xs ys : List X) → map (λ x. x) ys ≡ xs → ys ≡ xs
same_items xs ys e = sym (map_same ys) ∙ e

pub past_32_bits : (n : ℕ) → 4294967295 < n → nat_lt n (2 ^ 32) ≡ false
past_32_bits n h = grind (arith, nat_tests, h)

pub within_32_bits : (n : ℕ) → n ≤ 4294967295 → nat_lt n (2 ^ 32) ≡ true
within_32_bits n h = grind (arith, nat_tests, h)
