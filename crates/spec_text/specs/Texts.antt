-- The whole text of a specification.
use Rattle.std.specs.Prelude.{ℕ, List, ◌++◌, length}
use Rattle.tiling_core.specs.Tiles.{Tiles}
use Rattle.steps.specs.declared.step.Step.{Step}
use Rattle.css_domain.specs.Entries.{Entry}
use Rattle.css_terms.specs.declared.term.Term.{Term}
use Rattle.rule_kinds.specs.Rules.{TilingRule}
use Rattle.spec_lines.specs.Lines.{Text}
use Rattle.spec_lines.specs.Numbers.{first_line, number_line, end_line}
use Rattle.spec_lines.specs.Traces.{head_text}
use Rattle.spec_text.specs.Entries.{entries_text}
use Rattle.spec_lines.specs.Terms.{terms_line}

-- the lines before the entries, whose number is given
abbrev pub start_text : List (List ℕ) → List Step → ℕ → Text
start_text basis trace entries = first_line ++ head_text basis trace ++ number_line entries

-- the lines after the entries
abbrev pub end_text : List Term → Text
end_text terms = terms_line terms ++ end_line

abbrev pub spec_text : List (List ℕ) → List Step → List (Entry Tiles TilingRule) → List Term → Text
spec_text basis trace entries terms = start_text basis trace (length entries) ++ entries_text entries ++ end_text terms
