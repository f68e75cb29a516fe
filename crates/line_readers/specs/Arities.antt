-- How many children a rule has, by the items of its line.
use Rattle.std.specs.Prelude.{ℕ, List, [], ◌∷◌, length, Option, Some, None}
use Rattle.spec_lines.specs.Lines.{Text}
use Rattle.line_readers.specs.KindItems.{word_of_kind}
use Rattle.line_readers.specs.declared.kinds.KindWord.{KindWord}
use Rattle.line_readers.specs.declared.kinds.KindWord.TheVariants as word

-- the children of a kind whose word has so many items behind it
abbrev pub children_by : KindWord → ℕ → ℕ
children_by word.Unit n = 0
children_by word.Point n = 0
children_by word.Void n = 0
children_by word.Insert n = 2
children_by word.Place n = n
children_by word.RowCut n = 1
children_by word.ColumnCut n = 1
children_by word.Factor n = n
children_by word.Infer n = 1

abbrev pub children_of_word : Option KindWord → ℕ → ℕ
children_of_word None n = 0
children_of_word (Some w) n = children_by w n

-- the children of a rule with these items behind the word of its line
abbrev pub children_in : Option (List Text) → ℕ
children_in None = 0
children_in (Some []) = 0
children_in (Some (t ∷ ts)) = children_of_word (word_of_kind t) (length ts)
