-- The permutations of a length are listed, each once.
use Rattle.std.proofs.Common.{◌≡◌, ℕ, ◌-◌, ◌<◌, true, List, [], ◌∷◌, length, subst, arith}
use Rattle.std.specs.List.{range_with_len, AllByRecursion}
use Rattle.lists.proofs.Ranges.{IsIn-range_with_len, NoRepeats-range_with_len, in_range_with_len}
use Rattle.lists.proofs.Words.{NoRepeats-words, IsIn-words, from_IsIn-words}
use Rattle.lists.specs.Members.{IsIn, NoRepeats}
use Rattle.lists.specs.Words.{words}
use Rattle.lists.proofs.Members.{IsIn-filter, from_IsIn-filter}
use Rattle.lists.proofs.Repeats.{NoRepeats-filter}
use Rattle.patterns.specs.Laws.{IsPermutationOf}
use Rattle.patterns.specs.Words.{all_perms, has_no_repeats}

pub NoRepeats-all_perms : (n : ℕ) → NoRepeats (all_perms n)
NoRepeats-all_perms n = NoRepeats-filter has_no_repeats (NoRepeats-words (NoRepeats-range_with_len 0 n) n)

letters_in : (n : ℕ) (w : List ℕ) → AllByRecursion (λ x. x < n) w → AllByRecursion (λ x. IsIn x (range_with_len 0 n)) w
letters_in n [] h = tt
letters_in n (x ∷ w) h = (in_range_with_len 0 n x (omega arith) (omega (arith, h.0)), letters_in n w h.1)

letters_below : (n : ℕ) (w : List ℕ) → AllByRecursion (λ x. IsIn x (range_with_len 0 n)) w → AllByRecursion (λ x. x < n) w
letters_below n [] h = tt
letters_below n (x ∷ w) h = (omega (arith, (IsIn-range_with_len 0 n x h.0).1), letters_below n w h.1)

-- a permutation has each letter below its length once, and each such word is listed
pub IsIn-all_perms : (w : List ℕ) → AllByRecursion (λ x. x < length w) w → has_no_repeats w ≡ true → IsIn w (all_perms (length w))
IsIn-all_perms w h e = IsIn-filter has_no_repeats (IsIn-words (range_with_len 0 (length w)) w (letters_in (length w) w h)) e

pub from_IsIn-all_perms : (n : ℕ) (w : List ℕ) → IsIn w (all_perms n) → AllByRecursion (λ x. x < n) w × (length w ≡ n) × (has_no_repeats w ≡ true)
from_IsIn-all_perms n w h =
    let k = from_IsIn-filter has_no_repeats (words (range_with_len 0 n) n) h in
    let m = from_IsIn-words (range_with_len 0 n) n w k.0 in
    (letters_below n w m.0, m.1, k.1)

pub perm_is_listed : (n : ℕ) (w : List ℕ) → IsPermutationOf n w → IsIn w (all_perms n)
perm_is_listed n w h =
    subst (λ m. AllByRecursion (λ x. x < m) w → IsIn w (all_perms m)) h.as_long (λ b. IsIn-all_perms w b h.distinct) h.below

pub listed_is_perm : (n : ℕ) (w : List ℕ) → IsIn w (all_perms n) → IsPermutationOf n w
listed_is_perm n w h = let k = from_IsIn-all_perms n w h in record { as_long = k.1; below = k.0; distinct = k.2 }
