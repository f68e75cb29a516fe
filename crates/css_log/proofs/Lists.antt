-- Lists of words and of views.
use Rattle.std.proofs.Common.{◌≡◌, ◌⊎◌, ℕ, zero, suc, ◌+◌, ◌<◌, max, replicate, List, [], ◌∷◌, ◌++◌, length, get_or, set, refl, sym, ap, ◌∙◌, subst, ⊎_elim, inl, inr, arith, length-append}
use mathlib.Core.Option.{some, some-injective, some-ne-none}
use mathlib.Core.Logic.{dite}
use native.Mathlib.Decide.{dec_le}
use lib.ListN.{get_elem?}
use Rattle.std.proofs.lemmas.List.{ext_get_or}

pub set_at : {A : Type 0} (l : List A) (i : ℕ) (a b : A) → get_elem? l i ≡ some b → get_elem? (set l i a) i ≡ some a
set_at [] i a b e = absurd (some-ne-none b (sym e))
set_at (x ∷ xs) zero a b e = refl
set_at (x ∷ xs) (suc i) a b e = set_at xs i a b e

pub length_push : (xs : List ℕ) (x : ℕ) → length (xs ++ x ∷ []) ≡ length xs + 1
length_push xs x = length-append xs (x ∷ [])

pub get_push_old : (xs : List ℕ) (x i : ℕ) → i < length xs → get_or (xs ++ x ∷ []) i 0 ≡ get_or xs i 0
get_push_old [] x i l = absurd (omega arith)
get_push_old (y ∷ ys) x zero l = refl
get_push_old (y ∷ ys) x (suc i) l = get_push_old ys x i (omega arith)

pub get_push_new : (xs : List ℕ) (x i : ℕ) → i ≡ length xs → get_or (xs ++ x ∷ []) i 0 ≡ x
get_push_new [] x zero e = refl
get_push_new [] x (suc i) e = absurd (omega arith)
get_push_new (y ∷ ys) x zero e = absurd (omega arith)
get_push_new (y ∷ ys) x (suc i) e = get_push_new ys x i (omega arith)

pub at_end : {A : Type 0} (l : List A) (a b : A) (j : ℕ) → get_elem? (l ++ a ∷ []) j ≡ some b → (get_elem? l j ≡ some b) ⊎ ((j ≡ length l) × (a ≡ b))
at_end [] a b zero e = inr (refl, some-injective a b e)
at_end [] a b (suc j) e = absurd (some-ne-none b (sym e))
at_end (x ∷ xs) a b zero e = inl e
at_end (x ∷ xs) a b (suc j) e = ⊎_elim (λ t. inl t) (λ t. inr (ap suc t.0, t.1)) (at_end xs a b j e)

pub get_or-zeros : (n i : ℕ) → let z : ℕ = 0 in get_or (replicate n z) i z ≡ z
get_or-zeros zero i = refl
get_or-zeros (suc n) zero = refl
get_or-zeros (suc n) (suc i) = get_or-zeros n i

pub the_greater : (P : ℕ → Type 0) (a b : ℕ) → P a → P b → P (max a b)
the_greater P a b p q = dite (dec_le a b) (λ l. let e : b ≡ max a b = omega arith in subst P e q) (λ l. let e : a ≡ max a b = omega arith in subst P e p)

pub found_at : (l : List ℕ) (i x : ℕ) → get_elem? l i ≡ some x → get_or l i 0 ≡ x
found_at [] i x e = absurd (some-ne-none x (sym e))
found_at (y ∷ ys) zero x e = some-injective y x e
found_at (y ∷ ys) (suc i) x e = found_at ys i x e

-- a list whose words stand in the table from the third on
pub copied_out : (ws list items : List ℕ) → length items ≡ length list → ((i : ℕ) → i < length list → get_elem? ws (i + 2) ≡ some (get_or items i 0))
    → ((i : ℕ) → i < length list → get_or ws (i + 2) 0 ≡ get_or list i 0) → items ≡ list
copied_out ws list items count each filled =
    ext_get_or 0 items list count (λ i l. let inside : i < length list = omega arith in sym (found_at ws (i + 2) (get_or items i 0) (each i inside)) ∙ filled i inside)
