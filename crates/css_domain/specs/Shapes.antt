-- Shapes of rules, and how the counts of children make the count of a parent.
use Rattle.std.specs.Prelude.{ℕ, ◌*◌, suc, Bool, true, false, not, List, [], ◌∷◌, length, remove, filter, sum, sum_by, ◌==◌, if◌then◌else◌}
use Rattle.std.specs.List.{range_with_len, list_all}
use Rattle.css_domain.specs.declared.shape.Shape.{Shape}
use Rattle.css_domain.specs.declared.shape.Shape.TheVariants.{Union, Product, Atom, Nothing}
use Rattle.lists.specs.Words.{words}

-- the ways to write n as an ordered sum of k lengths
abbrev pub sums_to : ℕ → ℕ → List (List ℕ)
sums_to n k = filter (λ lengths. sum lengths == n) (words (range_with_len 0 (suc n)) k)

-- the product of the counts, each at its length
abbrev pub product_at : List (ℕ → ℕ) → List ℕ → ℕ
product_at [] lengths = 1
product_at (c ∷ counts) [] = 0
product_at (c ∷ counts) (n ∷ lengths) = c n * product_at counts lengths

-- the count of a parent at length n, from the children's counts as functions of the length
abbrev pub combine : Shape → List (ℕ → ℕ) → ℕ → ℕ
combine Union counts n = sum_by (λ c. c n) counts
combine Product counts n = sum_by (λ lengths. product_at counts lengths) (sums_to n (length counts))
combine (Atom k) counts n = if n == k then 1 else 0
combine Nothing counts n = 0

-- whether the child in a slot can have members as long as its parent's, from the positivity of all children
abbrev pub is_same_length : Shape → List Bool → ℕ → Bool
is_same_length Union positive slot = true
is_same_length Product positive slot = list_all not (remove positive slot)
is_same_length (Atom k) positive slot = false
is_same_length Nothing positive slot = false
