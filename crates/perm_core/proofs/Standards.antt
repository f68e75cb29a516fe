-- Standardised words are permutations.
use Rattle.std.proofs.Common.{◌≡◌, ℕ, ◌+◌, ◌<◌, ◌≤◌, List, [], ◌∷◌, length, get_or, take, set, sym, ap, subst, ◌∙◌, arith}
use Rattle.std.specs.Prelude.{map, nat_lt}
use Rattle.std.proofs.lemmas.List.{length-map, get_or-map, take_more_set, take_more, take_all, map-append}
use Rattle.std.proofs.lemmas.List.Sums.{count_by-le-length}
use Rattle.patterns.specs.Ranks.{rank, standardised}
use Rattle.patterns.proofs.Standard.{rank-lt-length, standardised_same_order, in_at}
use Rattle.perm_core.specs.Perms.{IsPerm, IsDistinct}

pub length-standardised : (xs : List ℕ) → length (standardised xs) ≡ length xs
length-standardised xs = length-map xs (rank xs)

pub rank_at : (xs : List ℕ) (k : ℕ) → k < length xs → get_or (standardised xs) k 0 ≡ rank xs (get_or xs k 0)
rank_at xs k h = get_or-map (rank xs) xs k 0 0 h

equal_ranks : (x y : ℕ) {r s : ℕ} → r ≡ s → (x < y → r < s) → (y < x → s < r) → x ≡ y
equal_ranks x y e up down = grind (arith, up, down)

pub standardised_perm : (xs : List ℕ) → IsDistinct xs → IsPerm (standardised xs)
standardised_perm xs h k l =
    let within : k < length xs = omega (arith, length-standardised xs) in
    let order = standardised_same_order xs in
    record {
      below = let small = rank-lt-length (get_or xs k 0) (in_at xs k within) in omega (arith, rank_at xs k within, length-standardised xs);
      new = λ j m e.
          let up = (order.alike j k (omega arith) within).1 in
          let down = (order.alike k j within (omega arith)).1 in
          let same : get_or xs j 0 ≡ get_or xs k 0 = equal_ranks (get_or xs j 0) (get_or xs k 0) e up down in
          h k within j m same;
    }

pub rank_small : (xs : List ℕ) (x : ℕ) → rank xs x ≤ length xs
rank_small xs x = count_by-le-length (λ y. nat_lt y x) xs

-- one more rank is written
pub rank_next : (letters digits : List ℕ) (i r : ℕ) → i < length letters → i < length digits → r ≡ rank digits (get_or digits i 0) → take i letters ≡ map (rank digits) (take i digits) → take (i + 1) (set letters i r) ≡ map (rank digits) (take (i + 1) digits)
rank_next letters digits i r h k e so_far =
    take_more_set letters i r h
    ∙ rw (so_far, e) (sym (ap (λ l. map (rank digits) l) (take_more digits i 0 k) ∙ map-append (rank digits) (take i digits) (get_or digits i 0 ∷ [])))

pub ranks_whole : (letters digits : List ℕ) (i : ℕ) → i ≡ length digits → take i letters ≡ map (rank digits) (take i digits) → take (length digits) letters ≡ standardised digits
ranks_whole letters digits i e h =
    subst (λ (n : ℕ). take n letters ≡ map (rank digits) (take n digits)) e h ∙ ap (λ l. map (rank digits) l) (take_all (length digits) digits (omega arith))

pub ruleset ranking = (rank_small)
