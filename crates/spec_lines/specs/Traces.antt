-- The text of steps and traces, and the lines that have them.
use Rattle.std.specs.Prelude.{ℕ, List, [], ◌∷◌, ◌++◌, map, codes, decimal}
use Rattle.steps.specs.declared.step.Step.{Step}
use Rattle.steps.specs.declared.step.Step.TheVariants.{Min, Clean, Lists, Column, Row, Void}
use Rattle.spec_lines.specs.Lines.{Text, line, or_dash, separated}
use Rattle.spec_lines.specs.Patterns.{cell_text, word_text}

abbrev pub step_text : Step → Text
step_text Void = codes "V"
step_text Min = codes "M"
step_text Lists = codes "L"
step_text (Clean c) = codes "K" ++ cell_text c
step_text (Column x) = codes "C" ++ decimal x
step_text (Row y) = codes "R" ++ decimal y

abbrev pub trace_items : List Step → List Text
trace_items trace = or_dash (map step_text trace)

abbrev pub basis_line : List (List ℕ) → Text
basis_line basis = line (codes "basis") (separated 44 (map word_text basis) ∷ [])

abbrev pub root_line : List Step → Text
root_line trace = line (codes "root") (trace_items trace)

-- the lines of the basis and of the root's trace
abbrev pub head_text : List (List ℕ) → List Step → Text
head_text basis trace = basis_line basis ++ root_line trace

-- the line of a child: the entry that it is, and the trace that leads to it
abbrev pub child_line : ℕ → List Step → Text
child_line child trace = line (codes "to") (decimal child ∷ trace_items trace)
