-- The lines of rules and entries.
use Rattle.std.specs.Prelude.{ℕ, List, [], ◌∷◌, ◌++◌}
use Rattle.tiling_core.specs.Tiles.{Tiles}
use Rattle.steps.specs.declared.step.Step.{Step}
use Rattle.css_domain.specs.Entries.{Entry}
use Rattle.rule_kinds.specs.Rules.{TilingRule}
use Rattle.spec_lines.specs.Lines.{Text, numbered}
use Rattle.spec_lines.specs.Numbers.{entry_line}
use Rattle.spec_text.specs.Classes.{class_text}
use Rattle.spec_lines.specs.Traces.{child_line}
use Rattle.spec_lines.specs.Kinds.{rule_line}

-- a line for each child: one without a trace has the trace of no step, and traces past the last child are left out
abbrev pub child_lines : List ℕ → List (List Step) → Text
child_lines [] traces = []
child_lines (child ∷ children) [] = child_line child [] ++ child_lines children []
child_lines (child ∷ children) (trace ∷ traces) = child_line child trace ++ child_lines children traces

-- a rule whose children are the entries of these numbers
abbrev pub rule_text : TilingRule → List ℕ → Text
rule_text rule children = rule_line rule.kind ++ child_lines children rule.traces

abbrev pub entry_text : ℕ → Entry Tiles TilingRule → Text
entry_text number e = entry_line number e.rank ++ class_text e.class ++ rule_text e.rule e.children

-- the entries, numbered from 0 on
abbrev pub entries_text : List (Entry Tiles TilingRule) → Text
entries_text entries = numbered entry_text 0 entries
