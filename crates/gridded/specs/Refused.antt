-- Which letters and cells make a gridded permutation, place by place, and which refusal is answered.
use Rattle.std.specs.Prelude.{◌≡◌, ◌≢◌, ◌<◌, ◌≤◌, ◌-◌, ◌⊎◌, ℕ, List, length, slice_index, slice_index_or, EachIndex}
use Rattle.gridded.specs.declared.cell.Cell.{Cell}
use Rattle.gridded.specs.declared.fault.GriddedFault.{GriddedFault}
use Rattle.gridded.specs.declared.fault.GriddedFault.TheVariants.{Lengths, NotPerm, Columns, Rows, Memory}
use Rattle.gridded.specs.Grids.{corner}

abbrev pub column_at : List Cell → ℕ → ℕ
column_at cells k = (slice_index_or cells k corner).x

abbrev pub row_at : List Cell → ℕ → ℕ
row_at cells k = (slice_index_or cells k corner).y

-- the letter at a place is below the length and equals no earlier one
pub record IsGoodLetter (letters : List ℕ) (k : ℕ) : Type 0 where
  pub below : slice_index letters k < length letters
  pub new : (j : ℕ) → j < k → slice_index letters j ≢ slice_index letters k

-- the column at a place is no lower than the one before
abbrev pub IsGoodColumn : List Cell → ℕ → Type 0
IsGoodColumn cells k = 0 < k → column_at cells (k - 1) ≤ column_at cells k

-- the letters rise and the rows fall, or the other way round
abbrev pub Opposed : ℕ → ℕ → ℕ → ℕ → Type 0
Opposed letter row other_letter other_row = ((letter < other_letter) × (other_row < row)) ⊎ ((other_letter < letter) × (row < other_row))

-- the row and letter at a place stand in opposite strict order to no earlier place's
abbrev pub IsGoodRow : List ℕ → List Cell → ℕ → Type 0
IsGoodRow letters cells k = (j : ℕ) → j < k → Opposed (slice_index letters j) (row_at cells j) (slice_index letters k) (row_at cells k) → ⊥

-- the first of n places that isn't good
pub record IsFirstBad (n : ℕ) (Good : ℕ → Type 0) (k : ℕ) : Type 0 where
  pub within : k < n
  pub bad : Good k → ⊥
  pub earlier : (j : ℕ) → j < k → Good j

-- no refusal applies
pub record IsAccepted (letters : List ℕ) (cells : List Cell) : Type 0 where
  pub as_many : length letters ≡ length cells
  pub permutation : EachIndex letters (λ k. IsGoodLetter letters k)
  pub columns : EachIndex cells (λ k. IsGoodColumn cells k)
  pub rows : EachIndex cells (λ k. IsGoodRow letters cells k)

pub record IsNotPerm (letters : List ℕ) (cells : List Cell) (index : ℕ) : Type 0 where
  pub as_many : length letters ≡ length cells
  pub first : IsFirstBad (length letters) (λ k. IsGoodLetter letters k) index

pub record HasColumnBack (letters : List ℕ) (cells : List Cell) (index : ℕ) : Type 0 where
  pub as_many : length letters ≡ length cells
  pub permutation : EachIndex letters (λ k. IsGoodLetter letters k)
  pub first : IsFirstBad (length cells) (λ k. IsGoodColumn cells k) index

pub record HasRowsOpposed (letters : List ℕ) (cells : List Cell) (index : ℕ) : Type 0 where
  pub as_many : length letters ≡ length cells
  pub permutation : EachIndex letters (λ k. IsGoodLetter letters k)
  pub columns : EachIndex cells (λ k. IsGoodColumn cells k)
  pub first : IsFirstBad (length cells) (λ k. IsGoodRow letters cells k) index

-- the first refusal that applies, in the order of the variants
abbrev pub IsRefused : List ℕ → List Cell → GriddedFault → Type 0
IsRefused letters cells Lengths = length letters ≢ length cells
IsRefused letters cells (NotPerm index) = IsNotPerm letters cells index
IsRefused letters cells (Columns index) = HasColumnBack letters cells index
IsRefused letters cells (Rows index) = HasRowsOpposed letters cells index
IsRefused letters cells Memory = Unit {0}
