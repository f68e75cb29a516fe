-- How two numbers stand.
use Rattle.std.proofs.Common.{◌≡◌, ◌+◌, ◌<◌, ◌≤◌, ◌-◌, ℕ, zero, suc, Bool, true, false, refl, sym, subst, inl, inr, ⊎_elim, arith}
use Rattle.std.specs.Prelude.{◌⊎◌, nat_lt}
use Rattle.std.proofs.lemmas.Bool.Decides.{nat_tests}

-- how two numbers stand
pub data Standing (a b : ℕ) : Type 0 where
  less : a < b → Standing a b
  more : b < a → Standing a b
  even : a ≡ b → Standing a b

-- one of the three
pub standing : (a b : ℕ) → Standing a b
standing a b = go (nat_lt a b) (nat_lt b a) refl refl
  where
    go : (u v : Bool) → nat_lt a b ≡ u → nat_lt b a ≡ v → Standing a b
    go true v e f = less (grind (arith, nat_tests, e))
    go false true e f = more (grind (arith, nat_tests, f))
    go false false e f = even (grind (arith, nat_tests, e, f))

-- a number up to another is below it, or it
pub less_or_whole : (m n : ℕ) → m ≤ n → (m < n) ⊎ (m ≡ n)
less_or_whole m n h = go (n - m) refl
  where
    go : (d : ℕ) → n - m ≡ d → (m < n) ⊎ (m ≡ n)
    go zero e = inr (omega arith)
    go (suc d) e = inl (omega arith)

-- a number is 0 or more
pub zero_or_more : (i : ℕ) → (i ≡ 0) ⊎ (0 < i)
zero_or_more zero = inl refl
zero_or_more (suc i) = inr (omega arith)

-- what holds of each number below one, and of that one, holds of each below the next
pub up_to_next : (P : ℕ → Type 0) (n : ℕ) → ((k : ℕ) → k < n → P k) → P n → (k : ℕ) → k < n + 1 → P k
up_to_next P n before p k l = ⊎_elim {C = P k} (before k) (λ e. subst P (sym e) p) (less_or_whole k n (omega (arith, l)))
