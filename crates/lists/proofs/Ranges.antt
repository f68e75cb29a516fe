-- Numbers from a start on.
use Rattle.std.proofs.Common.{◌≡◌, ℕ, zero, suc, ◌+◌, ◌-◌, ◌<◌, ◌≤◌, List, [], ◌∷◌, ◌++◌, refl, ap, ◌∙◌, arith}
use Rattle.std.specs.List.{range_with_len}
use Rattle.lists.specs.Members.{IsIn, NoRepeats}
use Rattle.lists.specs.Members.IsIn.{here, later}
use Rattle.lists.specs.Members.NoRepeats.{no_element, one_more}

-- what is in a range is at or past its start and below its end
pub IsIn-range_with_len : (a n x : ℕ) → IsIn x (range_with_len a n) → (a ≤ x) × (x < a + n)
IsIn-range_with_len a zero x h = elim h [ ]
IsIn-range_with_len a (suc n) _ here = (omega arith, omega arith)
IsIn-range_with_len a (suc n) x (later _ h) = let k = IsIn-range_with_len (a + 1) n x h in (omega arith, omega arith)

-- a range has no repeats
pub NoRepeats-range_with_len : (a n : ℕ) → NoRepeats (range_with_len a n)
NoRepeats-range_with_len a zero = no_element
NoRepeats-range_with_len a (suc n) = one_more (λ h. let k = IsIn-range_with_len (a + 1) n a h in omega arith) (NoRepeats-range_with_len (a + 1) n)

-- a number at or past the start and below the end is in the range
pub in_range_with_len : (a n x : ℕ) → a ≤ x → x < a + n → IsIn x (range_with_len a n)
in_range_with_len a zero x h k = absurd (omega arith)
in_range_with_len a (suc n) x h k = go (x - a) refl (λ p q. in_range_with_len (a + 1) n x p q)
  where
    go : (d : ℕ) → x - a ≡ d → (a + 1 ≤ x → x < a + 1 + n → IsIn x (range_with_len (a + 1) n)) → IsIn x (range_with_len a (suc n))
    go zero e ih = let same : x ≡ a = omega arith in rw same here
    go (suc d) e ih = later a (ih (omega arith) (omega arith))

-- one number more, at the end
pub range_more : (a n : ℕ) → range_with_len a (suc n) ≡ range_with_len a n ++ (a + n) ∷ []
range_more a zero = let e : a + 0 ≡ a = omega arith in rw e refl
range_more a (suc n) = let e : a + suc n ≡ a + 1 + n = omega arith in rw e (ap (λ (xs : List ℕ). a ∷ xs) (range_more (a + 1) n))

-- the same from 0 on
pub range_next : (n : ℕ) → range_with_len 0 (n + 1) ≡ range_with_len 0 n ++ n ∷ []
range_next n =
    let up : n + 1 ≡ suc n = omega arith in
    let at : 0 + n ≡ n = omega arith in
    rw up (range_more 0 n ∙ rw at refl)

-- a range in two
pub range_split : (a m k : ℕ) → range_with_len a (m + k) ≡ range_with_len a m ++ range_with_len (a + m) k
range_split a zero k = let e : 0 + k ≡ k = omega arith in let d : a + 0 ≡ a = omega arith in rw (e, d) refl
range_split a (suc m) k = let e : suc m + k ≡ suc (m + k) = omega arith in let d : a + suc m ≡ a + 1 + m = omega arith in rw (e, d) (ap (λ xs. a ∷ xs) (range_split (a + 1) m k))
