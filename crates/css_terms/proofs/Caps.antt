-- Caps of sums and products.
use Rattle.std.proofs.Common.{◌≡◌, ◌≢◌, ℕ, ◌*◌, ◌<◌, ◌≤◌, ◌^◌, Bool, true, false, refl, sym, ap, ◌∙◌, arith, nat_lt}
use Rattle.std.specs.Prelude.{◌==◌, if◌then◌else◌}
use Rattle.std.proofs.lemmas.Bool.Decides.{nat_tests}
use Rattle.std.proofs.Math.Nat.{mul_comm, zero-mul, le-mul_of_pos_right}
use Rattle.css_terms.specs.Terms.{capped}
use Rattle.css_terms.specs.declared.term.Term.TheVariants.{Exact, Big}

pub capped-small : (n : ℕ) → n < 2 ^ 128 → capped n ≡ Exact n
capped-small n h = grind (arith, nat_tests)

pub capped-big : (n : ℕ) → 2 ^ 128 ≤ n → capped n ≡ Big
capped-big n h = grind (arith, nat_tests)

-- a cap says which numbers it stands for
pub from_exact : (x n : ℕ) → Exact x ≡ capped n → (x ≡ n) × (n < 2 ^ 128)
from_exact x n h = go (nat_lt n (2 ^ 128)) refl h
  where
    go : (b : Bool) → nat_lt n (2 ^ 128) ≡ b → Exact x ≡ (if b then Exact n else Big) → (x ≡ n) × (n < 2 ^ 128)
    go true e h = (cc, grind (arith, nat_tests))
    go false e h = absurd cc

pub from_big : (n : ℕ) → Big ≡ capped n → 2 ^ 128 ≤ n
from_big n h = go (nat_lt n (2 ^ 128)) refl h
  where
    go : (b : Bool) → nat_lt n (2 ^ 128) ≡ b → Big ≡ (if b then Exact n else Big) → 2 ^ 128 ≤ n
    go true e h = absurd cc
    go false e h = grind (arith, nat_tests)

-- a number from 2 ^ 128 on times one that isn't 0 is such a number
big_by : (a b : ℕ) → 2 ^ 128 ≤ b → a ≢ 0 → 2 ^ 128 ≤ a * b
big_by a b h ne = let p : b ≤ b * a = le-mul_of_pos_right b (omega (arith, ne)) in let c : a * b ≡ b * a = mul_comm a b in omega arith

is_zero : (x : ℕ) → (x == 0) ≡ true → x ≡ 0
is_zero x h = grind (arith, nat_tests)

isn't_zero : (x : ℕ) → (x == 0) ≡ false → x ≢ 0
isn't_zero x h = grind (arith, nat_tests)

-- a number below 2 ^ 128 times a greater one
pub exact_by_big : (x a b : ℕ) → Exact x ≡ capped a → Big ≡ capped b → (if x == 0 then Exact 0 else Big) ≡ capped (a * b)
exact_by_big x a b h k = go (x == 0) refl
  where
    go : (e : Bool) → (x == 0) ≡ e → (if e then Exact 0 else Big) ≡ capped (a * b)
    go true e =
        let p = from_exact x a h in
        let zero : a ≡ 0 = sym p.0 ∙ is_zero x e in
        rw zero (rw (zero-mul b) refl)
    go false e =
        let p = from_exact x a h in
        sym (capped-big (a * b) (big_by a b (from_big b k) (λ z. isn't_zero x e (p.0 ∙ z))))

pub big_by_exact : (y a b : ℕ) → Big ≡ capped a → Exact y ≡ capped b → (if y == 0 then Exact 0 else Big) ≡ capped (a * b)
big_by_exact y a b h k = exact_by_big y b a k h ∙ ap capped (mul_comm b a)

pub big_by_big : (a b : ℕ) → Big ≡ capped a → Big ≡ capped b → Big ≡ capped (a * b)
big_by_big a b h k = let p = from_big a h in sym (capped-big (a * b) (big_by a b (from_big b k) (λ z. omega (arith, p, z))))
