-- One element of each of several collections, whose sizes add up to a number. A collection gives for each size its elements of that size.
use Rattle.std.specs.Prelude.{ℕ, zero, suc, ◌-◌, ◌*◌, List, [], ◌∷◌, map, flat_map, sum_by}
use Rattle.std.specs.List.{range_with_len}

-- one element of each collection, of sizes that add up to n; c k has the elements of size k
abbrev pub choices : {Y : Type 0} → List (ℕ → List Y) → ℕ → List (List Y)
choices [] zero = [] ∷ []
choices [] (suc n) = []
choices (c ∷ cs) n = flat_map (λ k. flat_map (λ y. map (λ ys. y ∷ ys) (choices cs (n - k))) (c k)) (range_with_len 0 (suc n))

-- the sum over all ways to write n as an ordered sum, of the products
abbrev pub product_count : List (ℕ → ℕ) → ℕ → ℕ
product_count [] zero = 1
product_count [] (suc n) = 0
product_count (c ∷ cs) n = sum_by (λ k. c k * product_count cs (n - k)) (range_with_len 0 (suc n))
