-- The order of the rows by rank.
use Rattle.std.proofs.Common.{◌≡◌, ℕ, zero, suc, ◌+◌, ◌<◌, ◌≤◌, Bool, true, false, cond, nat_lt, List, [], ◌∷◌, ◌++◌, length, refl, sym, ap, ◌∙◌, subst, arith, get_or, take}
use Rattle.std.specs.Prelude.{slice_get, Some, ◌==◌}
use Rattle.std.specs.List.Sorted.{IsPermutation, IsNonDecreasingBy, IsSorted}
use Rattle.std.specs.Ordering.{nat_cmp, is_lt, ordering_then}
use Rattle.std.specs.declared.cmp.Ordering.{Ordering}
use Rattle.std.specs.declared.cmp.Ordering.TheVariants.{Less, Equal, Greater}
use Rattle.std.proofs.lemmas.Bool.Decides.{nat_tests}
use Rattle.std.proofs.lemmas.List.Sorted.{Contains-permutation, IsPermutation-sym, IsNonDecreasingBy-from_all_adjacent}
use Rattle.std.proofs.lemmas.Option.{slice_get_within, get_or_from_slice_get}
use Rattle.css_terms.specs.declared.rows.Row.{Row}
use Rattle.css_terms.specs.Rows.{IsInOrderOfRank, ranked_from, ranked_places}

pub ranked_more : (j i : ℕ) (rows : List Row) (row : Row) → slice_get rows i ≡ Some row → ranked_from j (take (i + 1) rows) ≡ ranked_from j (take i rows) ++ (row.rank, j + i) ∷ []
ranked_more j i [] row h = absurd cc
ranked_more j zero (x ∷ rows) row h = let e : x ≡ row = cc in let d : j + 0 ≡ j = omega arith in ap (λ (p : ℕ × ℕ). p ∷ []) (rw (e, d) refl)
ranked_more j (suc i) (x ∷ rows) row h =
    let e : suc i + 1 ≡ suc (i + 1) = omega arith in
    let d : j + suc i ≡ j + 1 + i = omega arith in
    rw (e, d) (ap (λ xs. (x.rank, j) ∷ xs) (ranked_more (j + 1) i rows row h))

at_ranked : (j i : ℕ) (rows : List Row) (row : Row) → slice_get rows i ≡ Some row → slice_get (ranked_from j rows) i ≡ Some (row.rank, j + i)
at_ranked j i [] row h = absurd cc
at_ranked j zero (x ∷ rows) row h = let e : x ≡ row = cc in let d : j + 0 ≡ j = omega arith in rw (e, d) refl
at_ranked j (suc i) (x ∷ rows) row h = let d : j + suc i ≡ j + 1 + i = omega arith in rw d (at_ranked (j + 1) i rows row h)

ranked_row : (j k : ℕ) (rows : List Row) (p : ℕ × ℕ) → k < length (ranked_from j rows) → get_or (ranked_from j rows) k p ≡ p → (i : ℕ) × (row : Row) × (p.1 ≡ j + i) × (slice_get rows i ≡ Some row) × (row.rank ≡ p.0)
ranked_row j k [] p h e = absurd (omega (arith, h))
ranked_row j zero (x ∷ rows) p h e = (0, x, (let d : j ≡ p.1 = ap (λ (q : ℕ × ℕ). q.1) e in omega arith), refl, ap (λ (q : ℕ × ℕ). q.0) e)
ranked_row j (suc k) (x ∷ rows) p h e = let ih = ranked_row (j + 1) k rows p (omega (arith, h)) e in (suc ih.0, ih.1, omega (arith, ih.2), ih.3, ih.4)

pub in_order : (rows : List Row) (order : List (ℕ × ℕ)) → IsPermutation (ranked_places rows) order → IsNonDecreasingBy (λ p. p.0) order → IsInOrderOfRank rows order
in_order rows order moved ascends =
    record {
      sound = λ p h.
          let back = Contains-permutation order (ranked_places rows) p (IsPermutation-sym (ranked_places rows) order moved) h in
          let at = ranked_row 0 back.0 rows p back.1 back.2 in
          let same : at.0 ≡ p.1 = omega (arith, at.2) in
          (at.1, subst (λ i. slice_get rows i ≡ Some at.1) same at.3, at.4);
      complete = λ i row h.
          let at : slice_get (ranked_places rows) i ≡ Some (row.rank, i) = at_ranked 0 i rows row h ∙ ap (λ k. Some (row.rank, k)) (let z : 0 + i ≡ i = omega arith in z) in
          Contains-permutation (ranked_places rows) order (row.rank, i) moved (i, slice_get_within (ranked_places rows) i (row.rank, i) at, get_or_from_slice_get (ranked_places rows) i (row.rank, i) (row.rank, i) at);
      ascends = ascends;
    }

first_le : (a b : ℕ) (o : Ordering) → is_lt (ordering_then (nat_cmp a b) o) ≡ false → b ≤ a
first_le a b o h = go (nat_lt a b) refl h
  where
    go : (t : Bool) → nat_lt a b ≡ t → is_lt (ordering_then (cond t Less (cond (a == b) Equal Greater)) o) ≡ false → b ≤ a
    go true e h = absurd cc
    go false e h = grind (arith, nat_tests)

-- pairs that are in order are so by their first numbers
pub by_first_number : (xs : List (ℕ × ℕ)) → IsSorted (λ (x y : ℕ × ℕ). ordering_then (nat_cmp x.0 y.0) (nat_cmp x.1 y.1)) xs → IsNonDecreasingBy (λ p. p.0) xs
by_first_number xs up =
    IsNonDecreasingBy-from_all_adjacent (λ (p : ℕ × ℕ). p.0) xs
    (λ k d lt. let x = get_or xs (k + 1) d in let y = get_or xs k d in first_le x.0 y.0 (nat_cmp x.1 y.1) (up k d (omega arith) lt))
