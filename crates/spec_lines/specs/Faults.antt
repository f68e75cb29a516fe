-- What is said of bytes: that they are a text of the form and in range, or which line is at fault.
use Rattle.std.specs.Prelude.{◌≡◌, ◌≤◌, ◌<◌, ℕ, suc, Bool, true, false, cond, not, ◌&&◌, nat_lt, nat_eq, List, ◌++◌, length, take, IsTrue}
use Rattle.spec_lines.specs.Lines.{Text}
use Rattle.spec_lines.specs.Forms.{Line, has_items}
use Rattle.spec_lines.specs.Follows.{Place, IsForm}
use Rattle.spec_lines.specs.Follows.Place.{AtFirst, Done}
use Rattle.spec_lines.specs.Ranges.{nothing_seen, are_in_range, in_range_before}
use Rattle.spec_lines.specs.Items.{with_feeds, lines_of, tail_of}
use Rattle.spec_lines.specs.Machine.{Gone, gone}

-- the bytes are a text of the form
abbrev pub IsOfForm : Text → Type 0
IsOfForm bytes = (lines : List Line) × IsForm bytes lines

-- some text of the form begins with these bytes
abbrev pub CanBegin : Text → Type 0
CanBegin front = (more : Text) × IsOfForm (front ++ more)

-- the bytes of the first so many lines
abbrev pub first_lines : ℕ → Text → Text
first_lines number bytes = with_feeds (take number (lines_of bytes))

-- The bytes are no text of the form, and this is the number of the first line, from 1 on, with which none begins; a line that is missing
-- or has no line feed is such a one.
pub record IsGrammarFault (bytes : Text) (number : ℕ) : Type 0 where
  pub no_text : IsOfForm bytes → ⊥
  pub from_one : 1 ≤ number
  pub there : number ≤ suc (length (lines_of bytes))
  pub before : (earlier : ℕ) → earlier < number → CanBegin (first_lines earlier bytes)
  pub not_on : number ≤ length (lines_of bytes) → CanBegin (first_lines number bytes) → ⊥

-- The bytes are a text of the form, and this is the number of the first line, from 1 on, that has a quantity out of range.
pub record IsLimitFault (bytes : Text) (number : ℕ) : Type 0 where
  pub lines : List Line
  pub form : IsForm bytes lines
  pub first : number ≡ suc (in_range_before nothing_seen lines)
  pub there : number ≤ length lines

-- the bytes are a text of the form with these lines, each in range
pub record IsSpelled (bytes : Text) (lines : List Line) : Type 0 where
  pub form : IsForm bytes lines
  pub ranges : IsTrue (are_in_range nothing_seen lines)

-- ====== the answer for a text, by going through its lines ======
pub data Answer : Type 0 where
  Spelled : List Line → Answer
  Grammar : ℕ → Answer
  Limit : ℕ → Answer

abbrev pub is_done : Place → Bool
is_done Done = true
is_done _ = false

abbrev pub by_ranges : List Line → Answer
by_ranges lines = cond (nat_lt (in_range_before nothing_seen lines) (length lines)) (Limit (suc (in_range_before nothing_seen lines))) (Spelled lines)

-- after so many lines and a rest
abbrev pub answer_by : ℕ → Text → Gone → Answer
answer_by count rest g = cond (nat_eq (length g.values) count && is_done g.place && not (has_items rest)) (by_ranges g.values) (Grammar (suc (length g.values)))

abbrev pub answer : Text → Answer
answer bytes = answer_by (length (lines_of bytes)) (tail_of bytes) (gone AtFirst (lines_of bytes))
