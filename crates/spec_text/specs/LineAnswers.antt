-- What the readers of single lines answer, in terms of the text of lines.
use Rattle.std.specs.Prelude.{◌≡◌, ◌↔◌, ⊤, ℕ, true, false, Result, Ok, Err}
use Rattle.spec_lines.specs.Lines.{Text}
use Rattle.spec_lines.specs.Forms.{Line}
use Rattle.spec_lines.specs.Forms.Line.{Entry}
use Rattle.spec_lines.specs.Follows.{Place}
use Rattle.spec_lines.specs.Follows.Place.{AtEntry}
use Rattle.spec_lines.specs.Ranges.{is_in_range}
use Rattle.spec_lines.specs.Readings.{line_at}
use Rattle.spec_lines.specs.Laws.{SpellsLine}
use Rattle.line_readers.specs.Answers.{IsLineAnswer, nothing_else, is_numbered}
use Rattle.line_readers.specs.Kept.{where_it}
use Rattle.line_readers.specs.declared.fault.ItemFault.{ItemFault}
use Rattle.line_readers.specs.declared.fault.ItemFault.TheVariants.{Form, Range, Memory}

-- a line has at most one value
abbrev pub LinesHaveOneValue : Type 0
LinesHaveOneValue = (p : Place) (t : Text) (l k : Line) → SpellsLine p t l → SpellsLine p t k → l ≡ k

-- A value where the bytes, with a line feed, spell its line and it is in range alone; Range where they spell a line that isn't in range
-- alone; Form where they spell none that may stand there; want of memory is free.
abbrev pub IsSpelledAnswer : {R : Type 0} → Place → Text → (R → Line) → Result R ItemFault → Type 0
IsSpelledAnswer p t line_of (Ok r) = SpellsLine p t (line_of r) × (is_in_range nothing_else (line_of r) ≡ true)
IsSpelledAnswer p t line_of (Err Form) = (l : Line) → SpellsLine p t l → ⊥
IsSpelledAnswer p t line_of (Err Range) = (l : Line) × SpellsLine p t l × (is_in_range nothing_else l ≡ false)
IsSpelledAnswer p t line_of (Err Memory) = ⊤

-- so the readers of lines answer, whose values are of a type
abbrev pub LinesAreAnswered : Type 0 → Type 0
LinesAreAnswered R = (p : Place) (t : Text) (line_of : R → Line) (result : Result R ItemFault) → IsLineAnswer (line_at p t) line_of result ↔ IsSpelledAnswer p t line_of result

-- the bytes, with a line feed, spell the first line of the entry of the number, with the rank
abbrev pub SpellsEntry : ℕ → Text → ℕ → Type 0
SpellsEntry number t rank = SpellsLine (AtEntry number 0) t (Entry number rank)

-- the rank of the entry of the number, and so on: Form where they spell the line of another entry, or none
abbrev pub IsSpelledEntry : ℕ → Text → Result ℕ ItemFault → Type 0
IsSpelledEntry number t (Ok rank) = SpellsEntry number t rank × (is_in_range nothing_else (Entry number rank) ≡ true)
IsSpelledEntry number t (Err Form) = (rank : ℕ) → SpellsEntry number t rank → ⊥
IsSpelledEntry number t (Err Range) = (rank : ℕ) × SpellsEntry number t rank × (is_in_range nothing_else (Entry number rank) ≡ false)
IsSpelledEntry number t (Err Memory) = ⊤

-- so the reader of that line answers
abbrev pub EntriesAreAnswered : Type 0
EntriesAreAnswered = (number : ℕ) (t : Text) (result : Result ℕ ItemFault) → IsLineAnswer (where_it (is_numbered number) (line_at (AtEntry number 0) t)) (λ rank. Entry number rank) result ↔ IsSpelledEntry number t result
