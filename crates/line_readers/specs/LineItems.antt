-- What the items behind a line's word are read as.
use Rattle.std.specs.Prelude.{ℕ, cond, List, [], ◌∷◌, codes, Option, Some, None, option_map, option_and_then}
use Rattle.steps.specs.declared.step.Step.{Step}
use Rattle.spec_lines.specs.Lines.{Text}
use Rattle.spec_lines.specs.Items.{same, items, read_all, dashed}
use Rattle.spec_lines.specs.Readings.{number_at, word_at, step_at}

abbrev pub words_of : List Text → Option (List (List ℕ))
words_of (t ∷ []) = read_all word_at (items 44 t)
words_of _ = None

abbrev pub one_number : List Text → Option ℕ
one_number (t ∷ []) = number_at t
one_number _ = None

abbrev pub pair_of : Text → Text → Option (ℕ × ℕ)
pair_of a b = option_and_then (λ x. option_map (λ y. (x, y)) (number_at b)) (number_at a)

abbrev pub two_numbers : List Text → Option (ℕ × ℕ)
two_numbers (a ∷ b ∷ []) = pair_of a b
two_numbers _ = None

-- the number of an entry and its rank
abbrev pub entry_numbers : List Text → Option (ℕ × ℕ)
entry_numbers (a ∷ w ∷ b ∷ []) = cond (same w (codes "rank")) (pair_of a b) None
entry_numbers _ = None

-- a child's entry and its trace
abbrev pub child_items : List Text → Option (ℕ × List Step)
child_items [] = None
child_items (c ∷ ts) = option_and_then (λ child. option_map (λ trace. (child, trace)) (dashed step_at ts)) (number_at c)
