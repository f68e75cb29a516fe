-- What has been read of a text that comes in pieces, cut anywhere.
use Rattle.std.specs.Prelude.{◌≡◌, ◌≤◌, ◌+◌, ℕ, Bool, true, false, List, [], ◌∷◌, ◌++◌, length, None}
use Rattle.spec_lines.specs.Lines.{Text}
use Rattle.spec_lines.specs.Items.{items, lines_of, tail_of}
use Rattle.spec_lines.specs.Machine.{step}
use Rattle.spec_reader.specs.Walks.{ReaderState, HasRead}
use Rattle.spec_reader.specs.declared.taking.Stop.{Stop}
use Rattle.spec_reader.specs.declared.taking.Stop.TheVariants.{Unfinished, Refused, Stuck}

-- the reader has read the lines of the bytes that stand before the rest
pub record IsOnItsWay (bytes rest : Text) (s : ReaderState) : Type 0 where
  pub before : List Text
  pub read : HasRead before s
  pub lines : lines_of bytes ≡ before ++ lines_of rest
  pub tail : tail_of bytes ≡ tail_of rest

-- the reader has read lines of the bytes, and no text has the next one
pub record IsStuck (bytes : Text) (s : ReaderState) : Type 0 where
  pub before : List Text
  pub line : Text
  pub more : List Text
  pub read : HasRead before s
  pub wrong : step s.place line ≡ None
  pub lines : lines_of bytes ≡ before ++ line ∷ more

-- lines were taken until this rest was left
abbrev pub IsTaken : Text → Text → ReaderState → Stop → Type 0
IsTaken bytes rest s Unfinished = IsOnItsWay bytes rest s × (items 10 rest ≡ rest ∷ [])
IsTaken bytes rest s Refused = IsOnItsWay bytes rest s
IsTaken bytes rest s Stuck = IsStuck bytes s

abbrev pub is_stuck : Stop → Bool
is_stuck Stuck = true
is_stuck _ = false

-- the bytes end with these
abbrev pub EndsWith : Text → Text → Type 0
EndsWith bytes rest = (front : Text) × (bytes ≡ front ++ rest)

-- the reader has read the lines before the rest, or there is one that no text has
abbrev pub IsReadUpTo : Bool → Text → Text → ReaderState → Type 0
IsReadUpTo false bytes rest s = IsOnItsWay bytes rest s
IsReadUpTo true bytes rest s = IsStuck bytes s

-- what contracts see of a reader of pieces
pub record PiecesState : Type 0 where
  -- what has been read of the lines
  pub lines : ReaderState
  -- the bytes that are kept: those of an unfinished line, and of lines for which there was no memory
  pub rest : Text
  -- whether no text has the next line
  pub stuck : Bool
  -- how many bytes have been read
  pub many : ℕ

-- these bytes have been read
pub record HasReadBytes (bytes : Text) (s : PiecesState) : Type 0 where
  pub upto : IsReadUpTo s.stuck bytes s.rest s.lines
  pub counted : s.many ≡ length bytes

-- bytes have been read and are counted, and they are not too many
pub record IsFed (s : PiecesState) : Type 0 where
  pub kept : s.lines.lines + length s.rest ≤ s.many
  pub few : s.many ≤ 268435456
  pub bytes : Text
  pub read : HasReadBytes bytes s
