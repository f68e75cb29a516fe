-- A gridded permutation with a further point.
use Rattle.std.specs.Prelude.{ℕ, zero, suc, ◌+◌, Bool, true, false, ◌&&◌, cond, nat_lt, nat_le, List, [], ◌∷◌, map}
use Rattle.gridded.specs.declared.cell.Cell.{Cell}
use Rattle.gridded.specs.Grids.{Point}

-- the list with x at a place
abbrev pub put_in : {X : Type 0} → ℕ → X → List X → List X
put_in zero x ys = x ∷ ys
put_in (suc i) x [] = x ∷ []
put_in (suc i) x (y ∷ ys) = y ∷ put_in i x ys

-- a letter that makes room for the letter l
abbrev pub raised_letter : ℕ → ℕ → ℕ
raised_letter l letter = cond (nat_lt letter l) letter (letter + 1)

abbrev pub raised : ℕ → Point → Point
raised l p = record { letter = raised_letter l p.letter; cell = p.cell }

-- g with a further point: at place i, with letter l, in the cell c; letters from l on go up by one
abbrev pub inserted : ℕ → ℕ → Cell → List Point → List Point
inserted i l c g = put_in i (record { letter = l; cell = c }) (map (raised l) g)

-- whether a point with a letter and a cell, which stands left of the new point or right of it, may stand beside it
abbrev pub precedes : Bool → ℕ → Cell → ℕ → Cell → Bool
precedes before letter cell l c = cond before (nat_le cell.x c.x) (nat_le c.x cell.x) && cond (nat_lt letter l) (nat_le cell.y c.y) (nat_le c.y cell.y)

-- whether each point of g may stand beside the new one
abbrev pub fits_at : ℕ → ℕ → Cell → List Point → Bool
fits_at i l c [] = true
fits_at zero l c (p ∷ g) = precedes false p.letter p.cell l c && fits_at zero l c g
fits_at (suc i) l c (p ∷ g) = precedes true p.letter p.cell l c && fits_at i l c g
