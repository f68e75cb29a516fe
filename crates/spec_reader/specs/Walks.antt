-- What a reader has read, line by line, and what it has noted.
use Rattle.std.specs.Prelude.{◌≡◌, ◌+◌, ◌<◌, ℕ, suc, Bool, true, false, List, [], ◌∷◌, ◌++◌, length, Option, Some, None}
use Rattle.spec_lines.specs.Lines.{Text}
use Rattle.spec_lines.specs.Forms.{Line}
use Rattle.spec_lines.specs.Follows.{Place, after}
use Rattle.spec_lines.specs.Follows.Place.{AtFirst}
use Rattle.spec_lines.specs.Ranges.{Seen, nothing_seen, seen_with, is_in_range, are_in_range, in_range_before}
use Rattle.spec_lines.specs.Readings.{line_at}
use Rattle.spec_lines.specs.Machine.{Gone, gone}

-- what contracts see of a reader
pub record ReaderState : Type 0 where
  -- where the next line stands
  pub place : Place
  -- how many lines were taken
  pub lines : ℕ
  -- the first line out of range
  pub limit : Option ℕ
  -- what the ranges of the next line rest on, and the lines that were built, as long as all are in range
  pub seen : Seen
  pub values : List Line

abbrev pub Noted : ReaderState → Line → ReaderState → Option ℕ → Bool → Type 0
Noted s l t (Some k) b = t.limit ≡ Some k
Noted s l t None true = (t.limit ≡ None) × (t.seen ≡ seen_with s.seen l) × (t.values ≡ s.values ++ l ∷ [])
Noted s l t None false = t.limit ≡ Some (s.lines + 1)

-- the reader took a line, whose value leads on
pub record Takes (s : ReaderState) (text : Text) (t : ReaderState) : Type 0 where
  pub value : Line
  pub read : line_at s.place text ≡ Some value
  pub leads : after s.place value ≡ Some t.place
  pub counted : t.lines ≡ s.lines + 1
  pub noted : Noted s value t s.limit (is_in_range s.seen value)

-- lines in front of those that are gone through
abbrev pub led : List Line → Gone → Gone
led values g = record g { values = values ++ g.values }

-- what was seen after these lines
abbrev pub seen_after : Seen → List Line → Seen
seen_after s [] = s
seen_after s (l ∷ lines) = seen_after (seen_with s l) lines

abbrev pub IsNoted : List Line → ReaderState → Option ℕ → Type 0
IsNoted values s None = (are_in_range nothing_seen values ≡ true) × (seen_after nothing_seen values ≡ s.seen) × (s.values ≡ values)
IsNoted values s (Some k) = (k ≡ suc (in_range_before nothing_seen values)) × (in_range_before nothing_seen values < length values)

-- the reader has read these lines, each without its line feed: they may begin a text of the form
pub record HasRead (lines : List Text) (s : ReaderState) : Type 0 where
  pub values : List Line
  pub run : (more : List Text) → gone AtFirst (lines ++ more) ≡ led values (gone s.place more)
  pub many : length values ≡ length lines
  pub counted : s.lines ≡ length lines
  pub noted : IsNoted values s s.limit
