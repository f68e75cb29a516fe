-- What has been built of a text: the lines that it stands for.
use Rattle.std.specs.Prelude.{◌≤◌, ℕ, Bool, true, false, cond, List, [], ◌∷◌, ◌++◌, length, All, ⊤}
use Rattle.std.specs.List.Sorted.{IsStrictlySortedBy}
use Rattle.std.specs.Cmp.Lexicographic.{slice_cmp}
use Rattle.gridded.specs.Grids.{Point}
use Rattle.gridded.specs.Orders.{gridded_cmp}
use Rattle.steps.specs.declared.step.Step.{Step}
use Rattle.css_terms.specs.declared.term.Term.{Term}
use Rattle.rule_kinds.specs.declared.kind.Kind.{Kind}
use Rattle.rule_kinds.specs.declared.kind.Kind.TheVariants as kinds
use Rattle.tiling_core.specs.Tiles.{IsInGrid}
use Rattle.spec_lines.specs.Forms.{Line}
use Rattle.spec_lines.specs.Forms.Line.{First as LineFirst, Basis as LineBasis, Root as LineRoot, Count as LineCount, Entry as LineEntry, Grid as LineGrid, Obstructions as LineObstructions, Requirements as LineRequirements, Rule as LineRule, Terms as LineTerms, End as LineEnd}
use Rattle.spec_lines.specs.Files.{FileEntry, child_lines_of, lines_of_entries}
use Rattle.spec_lines.specs.Follows.{Place}
use Rattle.spec_lines.specs.Follows.Place.{AtFirst, AtBasis, AtRoot, AtCount, AtEntry, AtGrid, AtObstructions, AtRequirements, AtRule, AtChild, AtTerms, AtEnd, Done as AllDone}
use Rattle.spec_lines.specs.Ranges.{Seen}
use Rattle.spec_reader.specs.declared.values.LineValue.{LineValue}
use Rattle.spec_reader.specs.declared.values.LineValue.TheVariants as value

-- what contracts see of a draft
pub record Built : Type 0 where
  pub basis : List (List ℕ)
  pub root_trace : List Step
  pub count : ℕ
  pub entries : List FileEntry
  pub rank : ℕ
  pub width : ℕ
  pub height : ℕ
  pub obstructions : List (List Point)
  pub requirements : List (List (List Point))
  pub kind : Kind
  pub children : List ℕ
  pub traces : List (List Step)
  pub terms : List Term

-- nothing has been built
abbrev pub blank : Built
blank = record { basis = []; root_trace = []; count = 0; entries = []; rank = 0; width = 0; height = 0; obstructions = []; requirements = []; kind = kinds.Unit; children = []; traces = []; terms = [] }

-- the lines before the entries
abbrev pub start_lines : Built → List Line
start_lines d = LineFirst ∷ LineBasis d.basis ∷ LineRoot d.root_trace ∷ LineCount d.count ∷ []

-- the lines up to the end of the last entry that has been read to its end
abbrev pub done_lines : Built → List Line
done_lines d = start_lines d ++ lines_of_entries 0 d.entries

-- the lines that have been read before a place
abbrev pub drafted : Place → Built → List Line
drafted AtFirst d = []
drafted AtBasis d = LineFirst ∷ []
drafted AtRoot d = LineFirst ∷ LineBasis d.basis ∷ []
drafted AtCount d = LineFirst ∷ LineBasis d.basis ∷ LineRoot d.root_trace ∷ []
drafted (AtEntry i left) d = done_lines d
drafted (AtGrid i left) d = done_lines d ++ LineEntry (length d.entries) d.rank ∷ []
drafted (AtObstructions i left) d = done_lines d ++ LineEntry (length d.entries) d.rank ∷ LineGrid d.width d.height ∷ []
drafted (AtRequirements i left) d = done_lines d ++ LineEntry (length d.entries) d.rank ∷ LineGrid d.width d.height ∷ LineObstructions d.obstructions ∷ []
drafted (AtRule i left) d = done_lines d ++ LineEntry (length d.entries) d.rank ∷ LineGrid d.width d.height ∷ LineObstructions d.obstructions ∷ LineRequirements d.requirements ∷ []
drafted (AtChild i left more) d = done_lines d ++ LineEntry (length d.entries) d.rank ∷ LineGrid d.width d.height ∷ LineObstructions d.obstructions ∷ LineRequirements d.requirements ∷ LineRule d.kind ∷ child_lines_of d.children d.traces
drafted AtTerms d = done_lines d
drafted AtEnd d = done_lines d ++ LineTerms d.terms ∷ []
drafted AllDone d = done_lines d ++ LineTerms d.terms ∷ LineEnd ∷ []

-- what the ranges of the next line rest on
abbrev pub seen_of : Built → Seen
seen_of d = record { entries = d.count; width = d.width; height = d.height }

-- what makes a tiling as it stands
pub record AreParts (width height : ℕ) (obstructions : List (List Point)) (requirements : List (List (List Point))) : Type 0 where
  pub narrow : width ≤ 8
  pub low : height ≤ 8
  pub obstructions_in : IsInGrid width height obstructions
  pub requirements_in : All (λ patterns. IsInGrid width height patterns) requirements
  pub obstructions_ascend : IsStrictlySortedBy gridded_cmp obstructions
  pub each_ascends : All (λ patterns. IsStrictlySortedBy gridded_cmp patterns) requirements
  pub requirements_ascend : IsStrictlySortedBy (slice_cmp gridded_cmp) requirements

-- whether a child is to come
abbrev pub is_child : Place → Bool
is_child (AtChild i left more) = true
is_child _ = false

-- the entry that has begun
abbrev pub begun_entry : Built → FileEntry
begun_entry b = record {
  class = record { width = b.width; height = b.height; obstructions = b.obstructions; requirements = b.requirements };
  rank = b.rank;
  kind = b.kind;
  children = b.children;
  traces = b.traces;
}

-- whose tiling can be made of its parts
abbrev pub IsMakeable : FileEntry → Type 0
IsMakeable e = AreParts e.class.width e.class.height e.class.obstructions e.class.requirements

-- the entry that has begun is taken out
abbrev pub cleared : Built → Built
cleared b = record b { obstructions = []; requirements = []; kind = kinds.Unit; children = []; traces = [] }

abbrev pub with_entries : List FileEntry → Built → Built
with_entries entries b = record b { entries = entries }

-- the entry that has begun has ended
abbrev pub ended : Built → Built
ended b = record b { entries = b.entries ++ begun_entry b ∷ []; obstructions = []; requirements = []; kind = kinds.Unit; children = []; traces = [] }

abbrev pub with_child : ℕ → List Step → Built → Built
with_child child trace b = record b { children = b.children ++ child ∷ []; traces = b.traces ++ trace ∷ [] }

-- a value is noted
abbrev pub with_value : LineValue → Built → Built
with_value value.First b = b
with_value (value.Basis words) b = record b { basis = words }
with_value (value.Root trace) b = record b { root_trace = trace }
with_value (value.Count entries) b = record b { count = entries }
with_value (value.Entry number rank) b = record b { rank = rank }
with_value (value.Grid width height) b = record b { width = width; height = height }
with_value (value.Obstructions patterns) b = record b { obstructions = patterns }
with_value (value.Requirements lists) b = record b { requirements = lists }
with_value (value.Rule k) b = record b { kind = k; children = []; traces = [] }
with_value (value.Child child trace) b = record b { children = b.children ++ child ∷ []; traces = b.traces ++ trace ∷ [] }
with_value (value.Terms terms) b = record b { terms = terms }
with_value value.End b = b

abbrev pub is_of_rule : LineValue → Bool
is_of_rule (value.Rule k) = true
is_of_rule (value.Child child trace) = true
is_of_rule _ = false

-- a value is noted, and the entry has ended
abbrev pub last_taken : LineValue → Built → Built
last_taken v b = ended (with_value v b)

-- a value is noted, and the entry has ended where a rule or a child has no further child after it
abbrev pub taken : LineValue → Bool → Built → Built
taken v goes_on b = cond (is_of_rule v) (cond goes_on (with_value v b) (ended (with_value v b))) (with_value v b)
