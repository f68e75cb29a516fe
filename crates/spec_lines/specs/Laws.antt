-- Laws of the form, as facts that clauses can name.
use Rattle.std.specs.Prelude.{◌≡◌, ◌↔◌, ℕ, List, ◌++◌, codes, Some, IsTrue}
use Rattle.spec_lines.specs.Lines.{Text}
use Rattle.spec_lines.specs.Forms.{Line, line_text, is_line}
use Rattle.spec_lines.specs.Follows.{Place, stands_at, IsForm}
use Rattle.spec_lines.specs.Readings.{line_at}
use Rattle.spec_lines.specs.Faults.{IsGrammarFault, IsLimitFault, IsSpelled, answer}
use Rattle.spec_lines.specs.Faults.Answer.{Spelled, Grammar, Limit}

-- the bytes, with a line feed, spell a line of the form that may stand at the place
pub record SpellsLine (p : Place) (t : Text) (l : Line) : Type 0 where
  pub text : t ++ codes "\n" ≡ line_text l
  pub form : IsTrue (is_line l)
  pub stands : IsTrue (stands_at p l)

abbrev pub LinesAreRead : Type 0
LinesAreRead = (p : Place) (t : Text) (l : Line) → SpellsLine p t l ↔ (line_at p t ≡ Some l)

-- bytes are the text of at most one list of lines
abbrev pub TextsHaveOneReading : Type 0
TextsHaveOneReading = (bytes : Text) (lines others : List Line) → IsForm bytes lines → IsForm bytes others → lines ≡ others

abbrev pub SpelledTextsAreAnswered : Type 0
SpelledTextsAreAnswered = (bytes : Text) (lines : List Line) → IsSpelled bytes lines ↔ (answer bytes ≡ Spelled lines)

abbrev pub GrammarFaultsAreAnswered : Type 0
GrammarFaultsAreAnswered = (bytes : Text) (number : ℕ) → IsGrammarFault bytes number ↔ (answer bytes ≡ Grammar number)

abbrev pub LimitFaultsAreAnswered : Type 0
LimitFaultsAreAnswered = (bytes : Text) (number : ℕ) → IsLimitFault bytes number ↔ (answer bytes ≡ Limit number)
