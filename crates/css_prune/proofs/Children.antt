-- Children by slot.
use Rattle.std.proofs.Common.{◌≡◌, ℕ, zero, suc, ◌+◌, ◌<◌, Bool, true, false, List, [], ◌∷◌, length, get_or, refl, ap, ◌∙◌, arith}
use Rattle.std.specs.Prelude.{◌&&◌, map, slice_index}
use Rattle.std.specs.List.{list_all, range_with_len}
use Rattle.std.proofs.lemmas.List.Folds.{list_all-append, list_all_at}
use Rattle.std.proofs.lemmas.List.FromFn.{get_or-range_with_len, length-range_with_len}
use Rattle.std.proofs.lemmas.Bool.{and_from}
use Rattle.std.proofs.Math.Bool.{and-true}
use Rattle.lists.specs.Members.IsIn.{here, later}
use Rattle.lists.proofs.Ranges.{range_more}
use Rattle.lists.specs.Members.{IsIn}

pub child_number : (children : List (ℕ × Bool)) (i : ℕ) → slice_index (map (λ (c : ℕ × Bool). c.0) children) i ≡ (get_or {A = ℕ × Bool} children i (0, false)).0
child_number [] i = refl
child_number (c ∷ children) zero = refl
child_number (c ∷ children) (suc i) = child_number children i

pub all_range_more : (p : ℕ → Bool) (n : ℕ) → list_all p (range_with_len 0 n) ≡ true → p n ≡ true → list_all p (range_with_len 0 (n + 1)) ≡ true
all_range_more p n h e =
    let s : n + 1 ≡ suc n = omega arith in
    let z : 0 + n ≡ n = omega arith in
    rw s (ap (λ xs. list_all p xs) (range_more 0 n) ∙ list_all-append p (range_with_len 0 n) ((0 + n) ∷ []) ∙ and_from (list_all p (range_with_len 0 n)) (p (0 + n) && true) h (and-true (p (0 + n)) ∙ ap p z ∙ e))

pub range_fails : (p : ℕ → Bool) (n i : ℕ) → i < n → p i ≡ false → list_all p (range_with_len 0 n) ≡ false
range_fails p n i h e =
    let l = length-range_with_len 0 n in
    let z : 0 + i ≡ i = omega arith in
    list_all_at p (range_with_len 0 n) i 0 (omega (arith, h, l)) (ap p (get_or-range_with_len 0 n i 0 h ∙ z) ∙ e)

-- what holds at each place holds of each element
pub each_by_place : {X : Type 0} (P : X → Type 0) (xs : List X) → ((k : ℕ) (d : X) → k < length xs → P (get_or xs k d)) → (x : X) → IsIn x xs → P x
each_by_place P [] f x h = elim h [ ]
each_by_place P (x ∷ xs) f _ here = f 0 x (omega arith)
each_by_place P (y ∷ xs) f x (later _ h) = each_by_place P xs (λ k d l. f (suc k) d (omega (arith, l))) x h
