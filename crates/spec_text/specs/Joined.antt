-- Entries that are joined: each rule makes the class of its entry from the classes of the entries that are named for its children. What
-- reading a text answers.
use Rattle.std.specs.Prelude.{◌≡◌, ◌≤◌, ◌<◌, ℕ, List, length, map, All, slice_get, slice_index, Option, Some, option_map, Result, Ok, Err, ◌⊎◌, ⊤}
use Rattle.tiling_core.specs.Tiles.{Tiles}
use Rattle.steps.specs.declared.step.Step.{Step}
use Rattle.css_domain.specs.Entries.{Entry}
use Rattle.css_terms.specs.declared.term.Term.{Term}
use Rattle.rule_kinds.specs.Rules.{TilingRule}
use Rattle.spec_lines.specs.Lines.{Text}
use Rattle.spec_lines.specs.Files.{File, IsFileText}
use Rattle.spec_lines.specs.Faults.{IsGrammarFault, IsLimitFault}
use Rattle.spec_reader.specs.declared.files.TextFault.{TextFault}
use Rattle.spec_reader.specs.declared.files.TextFault.TheVariants as fault
use Rattle.spec_text.specs.Files.{file_entry, file_of, IsKeptSpec}
use Rattle.spec_text.specs.Texts.{spec_text}
use Rattle.spec_text.specs.declared.file.SpecFile.{SpecFile}

-- the class of the entry of a number, where there is one
abbrev pub class_at : List (Entry Tiles TilingRule) → ℕ → Option Tiles
class_at entries number = option_map (λ e. e.class) (slice_get entries number)

-- the rule makes the entry's class from the classes of the entries that the entry names
pub record IsJoined (entries : List (Entry Tiles TilingRule)) (e : Entry Tiles TilingRule) : Type 0 where
  pub own : e.rule.parent ≡ e.class
  pub children : map Some e.rule.children ≡ map (class_at entries) e.children

-- every entry's rule does
abbrev pub AreJoined : List (Entry Tiles TilingRule) → Type 0
AreJoined entries = All (λ e. IsJoined entries e) entries

-- an entry is named for the slot, and the rule's child there is its class
pub record IsNamedChild (entries : List (Entry Tiles TilingRule)) (e : Entry Tiles TilingRule) (slot : ℕ) : Type 0 where
  pub named : Entry Tiles TilingRule
  pub there : slice_get entries (slice_index e.children slot) ≡ Some named
  pub class : slice_get e.rule.children slot ≡ Some named.class

-- joined entries are told by what their file says of them
abbrev pub JoinedEntriesAreTold : Type 0
JoinedEntriesAreTold = (entries others : List (Entry Tiles TilingRule)) → AreJoined entries → AreJoined others → map file_entry entries ≡ map file_entry others → entries ≡ others

-- each slot of a joined entry has its named child, and there are as many as the rule has
abbrev pub JoinedEntriesAreNamed : Type 0
JoinedEntriesAreNamed = (entries : List (Entry Tiles TilingRule)) (e : Entry Tiles TilingRule) → IsJoined entries e → (length e.children ≡ length e.rule.children) × ((slot : ℕ) → slot < length e.children → IsNamedChild entries e slot)

abbrev pub file_of_spec : SpecFile → File
file_of_spec f = file_of f.basis f.root_trace f.entries f.terms

-- the bytes are the text of the file, whose entries are joined; some ranges of the text are told again
pub record IsReadSpec (bytes : Text) (f : SpecFile) : Type 0 where
  pub text : IsFileText bytes (file_of_spec f)
  pub joined : AreJoined f.entries
  pub some_entries : 1 ≤ length f.entries
  pub few_entries : length f.entries ≤ 100000
  pub some_terms : 1 ≤ length f.terms
  pub few_terms : length f.terms ≤ 201

-- the file, or the line at fault
abbrev pub IsReadAs : Text → Result SpecFile TextFault → Type 0
IsReadAs bytes (Ok f) = IsReadSpec bytes f
IsReadAs bytes (Err (fault.Grammar line)) = IsGrammarFault bytes line
IsReadAs bytes (Err (fault.Limit line)) = IsLimitFault bytes line
IsReadAs bytes (Err fault.Memory) = ⊤

-- a text is read as at most one file
abbrev pub ReadSpecsAreTold : Type 0
ReadSpecsAreTold = (bytes : Text) (f g : SpecFile) → IsReadSpec bytes f → IsReadSpec bytes g → f ≡ g

-- where the bytes are the text of a file, that file is read; want of memory is free
abbrev pub FileTextsAreRead : Type 0
FileTextsAreRead = (bytes : Text) (file : File) → IsFileText bytes file → (result : Result SpecFile TextFault) → IsReadAs bytes result → ((f : SpecFile) × (result ≡ Ok f) × (file_of_spec f ≡ file)) ⊎ (result ≡ Err fault.Memory)

-- what is written of a specification whose rules follow is read back as the same values; want of memory is free
abbrev pub WrittenSpecsAreReadBack : Type 0
WrittenSpecsAreReadBack = (words : List (List ℕ)) (trace : List Step) (entries : List (Entry Tiles TilingRule)) (terms : List Term) → IsKeptSpec words trace entries terms
    → (result : Result SpecFile TextFault) → IsReadAs (spec_text words trace entries terms) result → (result ≡ Ok (record { basis = words; root_trace = trace; entries = entries; terms = terms })) ⊎ (result ≡ Err fault.Memory)

-- a file has one text
abbrev pub FilesHaveOneText : Type 0
FilesHaveOneText = (bytes others : Text) (f : File) → IsFileText bytes f → IsFileText others f → bytes ≡ others
