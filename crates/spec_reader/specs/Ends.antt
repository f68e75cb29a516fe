-- What is answered at the end of a text.
use Rattle.std.specs.Prelude.{◌≡◌, ◌+◌, Bool, true, false, not, ◌&&◌, Some, None, Result, Ok, Err, ⊤}
use Rattle.spec_lines.specs.Lines.{Text}
use Rattle.spec_lines.specs.Forms.{has_items}
use Rattle.spec_lines.specs.Files.{File, IsFileText, file_lines, has_traces}
use Rattle.spec_lines.specs.Faults.{IsGrammarFault, IsLimitFault, is_done}
use Rattle.std.specs.List.{list_all}
use Rattle.spec_reader.specs.Walks.{ReaderState}
use Rattle.spec_reader.specs.declared.files.SpecText.{SpecText}
use Rattle.spec_reader.specs.declared.files.TextFault.{TextFault}
use Rattle.spec_reader.specs.declared.files.TextFault.TheVariants as fault

abbrev pub file_of : SpecText → File
file_of f = record { basis = f.basis; root_trace = f.root_trace; entries = f.entries; terms = f.terms }

-- a reader that stands at the end, with this behind its last line
abbrev pub ends : ReaderState → Text → Bool
ends s rest = is_done s.place && not (has_items rest)

-- the lines that were read are those of the file
pub record IsFileRead (s : ReaderState) (f : File) : Type 0 where
  pub none : s.limit ≡ None
  pub lines : s.values ≡ file_lines f
  pub traces : list_all has_traces f.entries ≡ true

abbrev pub IsEnd : ReaderState → Text → Result SpecText TextFault → Type 0
IsEnd s rest (Ok f) = (ends s rest ≡ true) × IsFileRead s (file_of f)
IsEnd s rest (Err (fault.Grammar number)) = (ends s rest ≡ false) × (number ≡ s.lines + 1)
IsEnd s rest (Err (fault.Limit number)) = (ends s rest ≡ true) × (s.limit ≡ Some number)
IsEnd s rest (Err fault.Memory) = ⊤

-- the text of the file, or the line at fault
abbrev pub IsAnswered : Text → Result SpecText TextFault → Type 0
IsAnswered bytes (Ok f) = IsFileText bytes (file_of f)
IsAnswered bytes (Err (fault.Grammar number)) = IsGrammarFault bytes number
IsAnswered bytes (Err (fault.Limit number)) = IsLimitFault bytes number
IsAnswered bytes (Err fault.Memory) = ⊤
