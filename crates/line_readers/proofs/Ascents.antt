-- Ascending lists, two items at a time.
use Rattle.std.proofs.Common.{◌≡◌, ◌+◌, ◌<◌, ◌-◌, ◌≤◌, ℕ, zero, suc, List, [], ◌∷◌, length, drop, get_or, refl, ap, arith, true, length-drop, ◌∙◌, sym}
use Rattle.std.specs.Prelude.{◌&&◌}
use Rattle.std.specs.declared.cmp.Ordering.{Ordering}
use Rattle.std.specs.Ordering.{is_lt}
use Rattle.std.proofs.lemmas.List.{drop_more}
use Rattle.spec_lines.specs.Forms.{ascending}

-- the first two of what is left
pub two_behind : {X : Type 0} (cmp : X → X → Ordering) (xs : List X) (i : ℕ) (x y : X) → 1 ≤ i → i < length xs → x ≡ get_or xs (i - 1) x → y ≡ get_or xs i y → ascending cmp (drop (i - 1) xs) ≡ is_lt (cmp x y) && ascending cmp (drop i xs)
two_behind cmp xs i x y some within first second =
    let next : i - 1 + 1 ≡ i = omega arith in
    let front = drop_more xs (i - 1) x (let h : i - 1 < length xs = omega arith in h) in
    let back = drop_more xs i y within in
    ap (ascending cmp) (front ∙ ap (λ z. z ∷ drop (i - 1 + 1) xs) (sym first) ∙ ap (λ n. x ∷ drop n xs) next ∙ ap (λ t. x ∷ t) (back ∙ ap (λ z. z ∷ drop (i + 1) xs) (sym second)))
    ∙ ap (λ t. is_lt (cmp x y) && ascending cmp t) (sym (back ∙ ap (λ z. z ∷ drop (i + 1) xs) (sym second)))

short : {X : Type 0} (cmp : X → X → Ordering) (ys : List X) → length ys ≤ 1 → ascending cmp ys ≡ true
short cmp [] few = refl
short cmp (y ∷ []) few = refl
short cmp (y ∷ z ∷ ys) few = absurd (omega (arith, few))

-- at the end at most one item is left
pub few_ascend : {X : Type 0} (cmp : X → X → Ordering) (xs : List X) (i : ℕ) → length xs ≤ i → ascending cmp (drop (i - 1) xs) ≡ true
few_ascend cmp xs i few = short cmp (drop (i - 1) xs) (omega (arith, few, length-drop (i - 1) xs))
