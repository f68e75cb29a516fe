-- What a text tells as a whole, and its lines.
use Rattle.std.specs.Prelude.{◌≡◌, ℕ, suc, Bool, ◌&&◌, nat_eq, List, [], ◌∷◌, ◌++◌, length, flat_map, IsTrue}
use Rattle.std.specs.List.{list_all}
use Rattle.tiling_core.specs.Tiles.{Tiles}
use Rattle.steps.specs.declared.step.Step.{Step}
use Rattle.css_terms.specs.declared.term.Term.{Term}
use Rattle.rule_kinds.specs.declared.kind.Kind.{Kind}
use Rattle.spec_lines.specs.Lines.{Text}
use Rattle.spec_lines.specs.Forms.{Line, line_text, is_line}
use Rattle.spec_lines.specs.Forms.Line.{First, Basis, Root, Count, Entry, Grid, Obstructions, Requirements, Rule, Child, Terms, End}
use Rattle.spec_lines.specs.Follows.{arity}
use Rattle.spec_lines.specs.Ranges.{nothing_seen, are_in_range}
use Rattle.spec_lines.specs.Faults.{IsSpelled}

-- an entry: its class, its rank, the kind of its rule, and for each child the number of its entry and a trace
pub record FileEntry : Type 0 where
  pub class : Tiles
  pub rank : ℕ
  pub kind : Kind
  pub children : List ℕ
  pub traces : List (List Step)

-- a file: the basis, the trace of the root, the entries by their numbers, and the terms
pub record File : Type 0 where
  pub basis : List (List ℕ)
  pub root_trace : List Step
  pub entries : List FileEntry
  pub terms : List Term

-- a line for each child: one without a trace has the trace of no step, and traces past the last child are left out
abbrev pub child_lines_of : List ℕ → List (List Step) → List Line
child_lines_of [] traces = []
child_lines_of (child ∷ children) [] = Child child [] ∷ child_lines_of children []
child_lines_of (child ∷ children) (trace ∷ traces) = Child child trace ∷ child_lines_of children traces

abbrev pub lines_of_entry : ℕ → FileEntry → List Line
lines_of_entry number e =
    Entry number e.rank ∷ Grid e.class.width e.class.height ∷ Obstructions e.class.obstructions ∷ Requirements e.class.requirements ∷ Rule e.kind ∷ child_lines_of e.children e.traces

-- the entries, numbered from a number on
abbrev pub lines_of_entries : ℕ → List FileEntry → List Line
lines_of_entries number [] = []
lines_of_entries number (e ∷ entries) = lines_of_entry number e ++ lines_of_entries (suc number) entries

abbrev pub file_lines : File → List Line
file_lines f = First ∷ Basis f.basis ∷ Root f.root_trace ∷ Count (length f.entries) ∷ lines_of_entries 0 f.entries ++ Terms f.terms ∷ End ∷ []

abbrev pub file_text : File → Text
file_text f = flat_map line_text (file_lines f)

-- as many traces as children
abbrev pub has_traces : FileEntry → Bool
has_traces e = nat_eq (length e.traces) (length e.children)

-- the bytes are the text of the file, of the form and in range
pub record IsFileText (bytes : Text) (f : File) : Type 0 where
  pub spelled : IsSpelled bytes (file_lines f)
  pub traces : IsTrue (list_all has_traces f.entries)

-- as many children and traces as the kind has
abbrev pub has_children : FileEntry → Bool
has_children e = nat_eq (length e.children) (arity e.kind) && nat_eq (length e.traces) (arity e.kind)

-- a file whose values have lines, in range
pub record IsWritable (f : File) : Type 0 where
  pub each : IsTrue (list_all is_line (file_lines f))
  pub ranges : IsTrue (are_in_range nothing_seen (file_lines f))
  pub children : IsTrue (list_all has_children f.entries)

-- a text is that of at most one file
abbrev pub TextsHaveOneFile : Type 0
TextsHaveOneFile = (bytes : Text) (f g : File) → IsFileText bytes f → IsFileText bytes g → f ≡ g

-- lines that are spelled are those of a file
abbrev pub SpelledTextsHaveFiles : Type 0
SpelledTextsHaveFiles = (bytes : Text) (lines : List Line) → IsSpelled bytes lines → (f : File) × IsFileText bytes f × (file_lines f ≡ lines)

-- a file that can be written has a text
abbrev pub WritableFilesAreSpelled : Type 0
WritableFilesAreSpelled = (f : File) → IsWritable f → IsFileText (file_text f) f
