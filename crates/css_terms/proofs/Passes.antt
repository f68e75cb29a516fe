-- One pass over the rows, in order of rank.
use Rattle.std.proofs.Common.{◌≡◌, ℕ, ◌+◌, ◌<◌, List, [], length, sym, ap, ◌∙◌, subst, arith, get_or, ⊎_elim}
use Rattle.std.specs.Prelude.{◌⊎◌, slice_get, Some, Contains}
use Rattle.std.proofs.lemmas.List.{get_or_default}
use Rattle.std.proofs.lemmas.Bool.{cases_lt}
use Rattle.css_terms.specs.Rows.{AreAt, AreNear, AreLowerDone, IsExtended, IsInOrderOfRank}
use Rattle.css_terms.specs.declared.rows.Row.{Row}
use Rattle.css_terms.specs.declared.term.Term.{Term}
use Rattle.lists.proofs.Numbers.{less_or_whole}
use Rattle.lists.proofs.Places.{at_place}

-- the rows at the first places of the order have their terms at n
abbrev pub AreDone : List (List Term) → List (ℕ × ℕ) → ℕ → ℕ → Type 0
AreDone lists order index n = (q : ℕ) → q < index → n < length (get_or lists (get_or order q (0, 0)).1 [])

pub near_from : (lists : List (List Term)) (k n : ℕ) → AreAt lists k n → AreNear lists n
near_from lists k n at c small = let l = at.long c (omega (arith, small, at.as_many)) in (omega (arith, l), omega (arith, l))

module _ (rows : List Row) (order : List (ℕ × ℕ)) (is : IsInOrderOfRank rows order) where
  in_place : (index : ℕ) → index < length order → Contains order (get_or order index (0, 0))
  in_place index h = (index, h, get_or_default order index (get_or order index (0, 0)) (0, 0) h)

  pub place_of : (index : ℕ) → index < length order → (row : Row) × (slice_get rows (get_or order index (0, 0)).1 ≡ Some row) × (row.rank ≡ (get_or order index (0, 0)).0)
  place_of index h = is.sound (get_or order index (0, 0)) (in_place index h)

  -- where a row stands in the order
  pub stands_at : (c : ℕ) (row : Row) → slice_get rows c ≡ Some row → (q : ℕ) × (q < length order) × (get_or order q (0, 0) ≡ (row.rank, c))
  stands_at c row h = let k = is.complete c row h in (k.0, k.1, get_or_default order k.0 (0, 0) (row.rank, c) k.1 ∙ k.2)

  pub lower_done : (lists : List (List Term)) (index n : ℕ) → index < length order → AreDone lists order index n → AreLowerDone rows lists (get_or order index (0, 0)).1 n
  lower_done lists index n within done row child c at h less =
      let here = place_of index within in
      let same : here.0 ≡ row = (let x = here.1 in cc) in
      let own : (get_or order index (0, 0)).0 ≡ row.rank = sym here.2 ∙ ap (λ (r : Row). r.rank) same in
      let q = stands_at c child h in
      ⊎_elim {C = n < length (get_or lists c [])}
      (λ before. subst (λ x. n < length (get_or lists x [])) (ap (λ (p : ℕ × ℕ). p.1) q.2) (done q.0 before))
      (λ past. let up = is.ascends index q.0 (0, 0) past q.1 in let theirs : (get_or order q.0 (0, 0)).0 ≡ child.rank = ap (λ (p : ℕ × ℕ). p.0) q.2 in absurd (omega (arith, up, own, theirs, less)))
      (cases_lt q.0 index)

  pub all_done : (lists : List (List Term)) (n : ℕ) → length lists ≡ length rows → AreNear lists n → AreDone lists order (length order) n → AreAt lists (length rows) (n + 1)
  all_done lists n many near done =
      record {
        as_many = many;
        long = λ c small.
            let row = at_place rows c small in
            let q = stands_at c row.0 row.1 in
            let more : n < length (get_or lists c []) = subst (λ x. n < length (get_or lists x [])) (ap (λ (p : ℕ × ℕ). p.1) q.2) (done q.0 q.1) in
            let most = (near c (omega (arith, small, many))).1 in
            omega (arith, more, most);
      }

pub more_done : (rows : List Row) (order : List (ℕ × ℕ)) (old new : List (List Term)) (index n : ℕ) → AreDone old order index n → IsExtended rows old new (get_or order index (0, 0)).1 n → AreDone new order (index + 1) n
more_done rows order old new index n done e q small =
    ⊎_elim {C = n < length (get_or new (get_or order q (0, 0)).1 [])} (λ less. let a = done q less in let b = e.kept (get_or order q (0, 0)).1 in omega (arith, a, b))
    (λ same. subst (λ x. n < length (get_or new (get_or order x (0, 0)).1 [])) (sym same) e.there)
    (less_or_whole q index (omega (arith, small)))
