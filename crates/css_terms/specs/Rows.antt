-- Rows of a specification, and families of counts over them.
use Rattle.std.specs.Prelude.{◌≡◌, ◌<◌, ◌≤◌, ℕ, Bool, true, IsTrue, List, map, length, slice_get, slice_index_or, Some, Contains, [], ◌∷◌, ◌+◌}
use Rattle.std.specs.List.Sorted.{IsNonDecreasingBy}
use Rattle.css_domain.specs.Shapes.{combine, is_same_length}
use Rattle.css_domain.specs.declared.shape.Shape.TheVariants.{Product}
use Rattle.css_terms.specs.declared.rows.Row.{Row}
use Rattle.css_terms.specs.declared.term.Term.{Term}
use Rattle.css_terms.specs.Terms.{terms_to}
use Rattle.css_terms.specs.Series.{Shows, ShowsTails, AreBelow, places}

-- which children are positive
abbrev pub flags : List (ℕ × Bool) → List Bool
flags children = map (λ child. child.1) children

-- the row's children are rows, and each same-length child has a smaller rank
pub record IsGoodRow (rows : List Row) (row : Row) : Type 0 where
  pub below : AreBelow (length rows) (places row.children)
  pub ranks : (slot place : ℕ) (child : Row) → slice_get (places row.children) slot ≡ Some place → slice_get rows place ≡ Some child → IsTrue (is_same_length row.shape (flags row.children) slot) → child.rank < row.rank

abbrev pub AreGoodRows : List Row → Type 0
AreGoodRows rows = (i : ℕ) (row : Row) → slice_get rows i ≡ Some row → IsGoodRow rows row

-- the numbers combine over the rows, and those of a positive child are 0 at length 0
pub record AreRowCounts (rows : List Row) (count : ℕ → ℕ → ℕ) : Type 0 where
  pub combined : (i n : ℕ) (row : Row) → slice_get rows i ≡ Some row → count i n ≡ combine row.shape (map count (places row.children)) n
  pub none_of_length_0 : (i slot place : ℕ) (row : Row) → slice_get rows i ≡ Some row → slice_get row.children slot ≡ Some (place, true) → count place 0 ≡ 0

-- the places of the rows, each with its rank, in ascending order of ranks
pub record IsInOrderOfRank (rows : List Row) (order : List (ℕ × ℕ)) : Type 0 where
  pub sound : (p : ℕ × ℕ) → Contains order p → (row : Row) × (slice_get rows p.1 ≡ Some row) × (row.rank ≡ p.0)
  pub complete : (i : ℕ) (row : Row) → slice_get rows i ≡ Some row → Contains order (row.rank, i)
  pub ascends : IsNonDecreasingBy (λ p. p.0) order

-- each series shows the counts of its row
abbrev pub AllShow : List (List Term) → (ℕ → ℕ → ℕ) → Type 0
AllShow series count = (c : ℕ) → c < length series → Shows (slice_index_or series c []) (count c)

-- each series has the terms below n, and may have that at n
abbrev pub AreNear : List (List Term) → ℕ → Type 0
AreNear series n = (c : ℕ) → c < length series → (n ≤ length (slice_index_or series c [])) × (length (slice_index_or series c []) ≤ n + 1)

-- so many series, all of which have the terms below n
pub record AreAt (series : List (List Term)) (rows n : ℕ) : Type 0 where
  pub as_many : length series ≡ rows
  pub long : (c : ℕ) → c < rows → length (slice_index_or series c []) ≡ n

-- the tails of a product have the terms below n
pub record AreTailsOf (rows : List Row) (row : Row) (tails : List (List Term)) (n : ℕ) : Type 0 where
  pub long : row.shape ≡ Product → length tails ≡ n
  pub shown : (count : ℕ → ℕ → ℕ) → AreRowCounts rows count → row.shape ≡ Product → ShowsTails tails n (places row.children) count

-- so do those of all rows
pub record AreTails (rows : List Row) (tails : List (List (List Term))) (n : ℕ) : Type 0 where
  pub as_many : length tails ≡ length rows
  pub each : (c : ℕ) (row : Row) → slice_get rows c ≡ Some row → AreTailsOf rows row (slice_index_or tails c []) n

-- each row of a smaller rank has its term at n
abbrev pub AreLowerDone : List Row → List (List Term) → ℕ → ℕ → Type 0
AreLowerDone rows series place n = (row child : Row) (c : ℕ) → slice_get rows place ≡ Some row → slice_get rows c ≡ Some child → child.rank < row.rank → n < length (slice_index_or series c [])

-- what the old series show, the new ones show
abbrev pub StillShow : List Row → List (List Term) → List (List Term) → Type 0
StillShow rows old new = (count : ℕ → ℕ → ℕ) → AreRowCounts rows count → AllShow old count → AllShow new count

-- the series at the place has its term at n, and the others are as long as before
pub record IsExtended (rows : List Row) (old new : List (List Term)) (place n : ℕ) : Type 0 where
  pub as_many : length new ≡ length rows
  pub near : AreNear new n
  pub there : n < length (slice_index_or new place [])
  pub kept : (c : ℕ) → length (slice_index_or old c []) ≤ length (slice_index_or new c [])
  pub shown : StillShow rows old new

-- the terms are the capped numbers of the first row, for each family of numbers that combine over the rows
abbrev pub AreTermsOf : List Row → ℕ → List Term → Type 0
AreTermsOf rows last terms = (count : ℕ → ℕ → ℕ) → AreRowCounts rows count → terms ≡ terms_to last (count 0)

-- the places of the rows, each after its rank
abbrev pub ranked_from : ℕ → List Row → List (ℕ × ℕ)
ranked_from i [] = []
ranked_from i (row ∷ rows) = (row.rank, i) ∷ ranked_from (i + 1) rows

abbrev pub ranked_places : List Row → List (ℕ × ℕ)
ranked_places rows = ranked_from 0 rows
