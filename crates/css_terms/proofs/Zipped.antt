-- Two lists side by side, place by place.
use Rattle.std.proofs.Common.{◌≡◌, ℕ, zero, suc, ◌≤◌, List, [], ◌∷◌, length, take, refl, ap, arith}
use Rattle.std.specs.Prelude.{zip, slice_get, Some}

pub zip_place : {X Y : Type 0} (xs : List X) (ys : List Y) (i : ℕ) (x : X) (y : Y) → slice_get xs i ≡ Some x → slice_get ys i ≡ Some y → slice_get {X = X × Y} (zip xs ys) i ≡ Some (x, y)
zip_place [] ys i x y a b = absurd cc
zip_place (u ∷ xs) [] i x y a b = absurd cc
zip_place {X} {Y} (u ∷ xs) (v ∷ ys) zero x y a b = let e : u ≡ x = cc in let f : v ≡ y = cc in λ i. Some (e i, f i)
zip_place (u ∷ xs) (v ∷ ys) (suc i) x y a b = zip_place xs ys i x y a b

pub zip_taken : {X Y : Type 0} (xs : List X) (ys : List Y) (n : ℕ) → length xs ≤ n → take {A = X × Y} n (zip xs ys) ≡ zip xs ys
zip_taken [] ys zero h = refl
zip_taken [] ys (suc n) h = refl
zip_taken (x ∷ xs) ys zero h = absurd (omega (arith, h))
zip_taken (x ∷ xs) [] (suc n) h = refl
zip_taken {X} {Y} (x ∷ xs) (y ∷ ys) (suc n) h = ap (λ (zs : List (X × Y)). (x, y) ∷ zs) (zip_taken xs ys n (omega (arith, h)))
