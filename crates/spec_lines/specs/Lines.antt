-- Lines of a text: items with one blank before each, and lists of items with a byte between two.
use Rattle.std.specs.Prelude.{ℕ, suc, List, [], ◌∷◌, ◌++◌, flat_map, codes}

abbrev pub Text : Type 0
Text = List ℕ

-- a byte before each item
abbrev pub each_after : ℕ → List Text → Text
each_after byte items = flat_map (λ (item : Text). byte ∷ item) items

-- a byte between two items
abbrev pub separated : ℕ → List Text → Text
separated byte [] = []
separated byte (item ∷ items) = item ++ each_after byte items

-- a word, further items, each after one blank, and a line feed
abbrev pub line : Text → List Text → Text
line word items = word ++ each_after 32 items ++ codes "\n"

-- the items, or a dash where there is none
abbrev pub or_dash : List Text → List Text
or_dash [] = codes "-" ∷ []
or_dash (item ∷ items) = item ∷ items

-- the texts of items that are numbered from a number on
abbrev pub numbered : {X : Type 0} → (ℕ → X → Text) → ℕ → List X → Text
numbered text number [] = []
numbered text number (x ∷ items) = text number x ++ numbered text (suc number) items
