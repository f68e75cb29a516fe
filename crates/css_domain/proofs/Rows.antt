-- Worked rows: counts, ranks, picks, orders and words of small lists of records.
use Rattle.std.specs.Prelude.{◌≡◌, ℕ, Bool, true, false, nat_lt, ◌==◌, ◌++◌, slice_get, List, [], ◌∷◌, map, flat_map, refl}
use Rattle.std.specs.List.{range_with_len, list_any, position_or_len}
use Rattle.css_domain.specs.declared.shape.Shape.{Shape}
use Rattle.css_domain.specs.declared.shape.Shape.TheVariants.{Union, Product, Atom, Nothing}
use Rattle.css_domain.specs.declared.record.Record.{Record}
use Rattle.css_domain.specs.Shapes.{combine, sums_to, is_same_length}
use Rattle.css_domain.specs.Added.{order_from}
use Rattle.css_domain.specs.Entries.{children_at}
use Rattle.css_domain.specs.Records.{record_words}
use Rattle.css_domain.specs.Standing.{rank_of, pick_of}

-- ---- counts
two_ways : sums_to 2 2 ≡ ((0 ∷ 2 ∷ []) ∷ (1 ∷ 1 ∷ []) ∷ (2 ∷ 0 ∷ []) ∷ [])
two_ways = refl

-- one of each length
abbrev ones : ℕ → ℕ
ones n = 1

union : map (combine Union (ones ∷ (λ n. n) ∷ [])) (range_with_len 0 4) ≡ (1 ∷ 2 ∷ 3 ∷ 4 ∷ [])
union = refl

product : map (combine Product (ones ∷ ones ∷ ones ∷ [])) (range_with_len 0 5) ≡ (1 ∷ 3 ∷ 6 ∷ 10 ∷ 15 ∷ [])
product = refl

product_of_none : map (combine Product []) (range_with_len 0 3) ≡ (1 ∷ 0 ∷ 0 ∷ [])
product_of_none = refl

atom : map (combine (Atom 1) []) (range_with_len 0 3) ≡ (0 ∷ 1 ∷ 0 ∷ [])
atom = refl

nothing : map (combine Nothing []) (range_with_len 0 2) ≡ (0 ∷ 0 ∷ [])
nothing = refl

same_in_union : is_same_length Union (true ∷ true ∷ []) 1 ≡ true
same_in_union = refl

-- the point beside another child
not_beside_point : is_same_length Product (false ∷ true ∷ []) 0 ≡ false
not_beside_point = refl

beside_others : is_same_length Product (false ∷ true ∷ []) 1 ≡ true
beside_others = refl

-- ---- records
abbrev pub rec : ℕ → Shape → List (ℕ × Bool) → Record
rec parent shape children = record { parent = parent; shape = shape; children = children }

-- the avoiders of 12 and 21: an insertion, the empty permutation, the point
abbrev pub records2 : List Record
records2 = rec 0 Union ((1, false) ∷ (2, true) ∷ []) ∷ rec 1 (Atom 0) [] ∷ rec 2 (Atom 1) [] ∷ []

insertion_words : record_words (rec 0 Union ((1, false) ∷ (2, true) ∷ [])) ≡ (0 ∷ 2 ∷ 2 ∷ 5 ∷ [])
insertion_words = refl

words2 : flat_map record_words records2 ≡ (0 ∷ 2 ∷ 2 ∷ 5 ∷ 4294967312 ∷ 0 ∷ 8589934609 ∷ 0 ∷ [])
words2 = refl

product_words : record_words (rec 3 Product ((7, true) ∷ [])) ≡ (12884901889 ∷ 1 ∷ 15 ∷ [])
product_words = refl

nothing_words : record_words (rec 1 Nothing []) ≡ (4294967298 ∷ 0 ∷ [])
nothing_words = refl

abbrev pub below : ℕ → ℕ → Bool
below n c = nat_lt c n

ranks2 : map (rank_of (below 3) records2) (range_with_len 0 3) ≡ (2 ∷ 1 ∷ 1 ∷ [])
ranks2 = refl

picks2 : map (pick_of (below 3) records2) (range_with_len 0 3) ≡ (0 ∷ 1 ∷ 2 ∷ [])
picks2 = refl

-- the avoiders of 132: the ten records that are filed
abbrev pub records3 : List Record
records3 =
    rec 0 Union ((1, false) ∷ (2, true) ∷ [])
    ∷ rec 0 Union ((1, false) ∷ (3, true) ∷ [])
    ∷ rec 1 (Atom 0) []
    ∷ rec 2 Product ((4, false) ∷ (5, true) ∷ [])
    ∷ rec 3 Product ((6, false) ∷ (5, true) ∷ [])
    ∷ rec 4 Union ((7, false) ∷ [])
    ∷ rec 5 (Atom 1) []
    ∷ rec 6 Union ((1, false) ∷ (8, true) ∷ (9, true) ∷ [])
    ∷ rec 6 Union ((1, false) ∷ (10, true) ∷ (3, true) ∷ [])
    ∷ rec 7 Product ((0, false) ∷ (0, false) ∷ [])
    ∷ []

abbrev pub among : List ℕ → ℕ → Bool
among cs c = list_any (λ d. c == d) cs

abbrev pub standing3 : ℕ → Bool
standing3 = among (0 ∷ 1 ∷ 2 ∷ 4 ∷ 5 ∷ 7 ∷ [])

ranks3 : map (rank_of standing3 records3) (0 ∷ 1 ∷ 2 ∷ 4 ∷ 5 ∷ 7 ∷ 3 ∷ 6 ∷ []) ≡ (3 ∷ 1 ∷ 2 ∷ 5 ∷ 1 ∷ 4 ∷ 0 ∷ 0 ∷ [])
ranks3 = refl

picks3 : map (pick_of standing3 records3) (0 ∷ 1 ∷ 2 ∷ 4 ∷ 5 ∷ 7 ∷ []) ≡ (0 ∷ 2 ∷ 3 ∷ 5 ∷ 6 ∷ 9 ∷ [])
picks3 = refl

abbrev pub children3 : ℕ → List ℕ
children3 c = children_at (slice_get records3 (pick_of standing3 records3 c))

order3 : order_from 0 children3 11 ≡ (0 ∷ 1 ∷ 2 ∷ 4 ∷ 5 ∷ 7 ∷ [])
order3 = refl

-- the children's places, entry by entry
named3 : map (λ c. map (λ d. position_or_len (λ o. d == o) (order_from 0 children3 11)) (children3 c)) (order_from 0 children3 11) ≡ ((1 ∷ 2 ∷ []) ∷ [] ∷ (3 ∷ 4 ∷ []) ∷ (5 ∷ []) ∷ [] ∷ (0 ∷ 0 ∷ []) ∷ [])
named3 = refl

-- a further record for class 2, whose first child is empty, doesn't give its rank
abbrev pub records4 : List Record
records4 = rec 2 Union ((11, false) ∷ (2, true) ∷ []) ∷ records3 ++ rec 11 Nothing [] ∷ []

abbrev pub standing4 : ℕ → Bool
standing4 = among (0 ∷ 1 ∷ 2 ∷ 4 ∷ 5 ∷ 7 ∷ 11 ∷ [])

rank4 : rank_of standing4 records4 2 ≡ 2
rank4 = refl

pick4 : pick_of standing4 records4 2 ≡ 4
pick4 = refl

-- a product rests on its own class beside a point, since the rest is shorter
abbrev beside_itself : List Record
beside_itself = rec 0 Union ((1, false) ∷ (2, true) ∷ []) ∷ rec 2 Product ((0, false) ∷ (3, true) ∷ []) ∷ rec 1 (Atom 0) [] ∷ rec 3 (Atom 1) [] ∷ []

ranks_beside : map (rank_of (below 4) beside_itself) (range_with_len 0 4) ≡ (3 ∷ 1 ∷ 2 ∷ 1 ∷ [])
ranks_beside = refl
