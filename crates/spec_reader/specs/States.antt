-- What a reader's fields say, and what a line changes.
use Rattle.std.specs.Prelude.{◌≡◌, ◌+◌, ℕ, true, Option, Some, None, is_some}
use Rattle.spec_lines.specs.Forms.{Line, is_line}
use Rattle.spec_lines.specs.Follows.{after}
use Rattle.spec_lines.specs.Ranges.{is_in_range}
use Rattle.line_readers.specs.Answers.{nothing_else}
use Rattle.spec_reader.specs.Walks.{ReaderState, Noted}
use Rattle.spec_reader.specs.Positions.{place_of}
use Rattle.spec_reader.specs.Drafts.{drafted, seen_of}
use Rattle.spec_reader.specs.declared.reader.Reading.{Reading}

abbrev pub state_of : Reading → ReaderState
state_of r = record {
  place = place_of r.position;
  lines = r.lines;
  limit = r.limit;
  seen = seen_of r.draft;
  values = drafted (place_of r.position) r.draft;
}

abbrev pub noted_limit : Option ℕ → ℕ → Option ℕ
noted_limit None line = Some line
noted_limit (Some earlier) line = Some earlier

-- the line may be taken
pub record MayTake (s : ReaderState) (l : Line) : Type 0 where
  pub leads : is_some (after s.place l) ≡ true
  pub form : is_line l ≡ true
  pub alone : is_in_range nothing_else l ≡ true

-- it was taken
pub record Advances (s : ReaderState) (l : Line) (t : ReaderState) : Type 0 where
  pub leads : after s.place l ≡ Some t.place
  pub counted : t.lines ≡ s.lines + 1
  pub noted : Noted s l t s.limit (is_in_range s.seen l)
