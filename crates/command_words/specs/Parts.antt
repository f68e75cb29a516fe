-- What the words after a command give: values to its positional word and to its options.
use Rattle.std.specs.Prelude.{◌==◌, ◌&&◌, ℕ, Bool, false, true, not, List, [], ◌∷◌, Option, Some, None, find, option_map, option_and_then, if◌then◌else◌}
use Rattle.std.specs.List.{list_any, before_first, after_first}
use Rattle.std.specs.Str.{bytes_eq}
use Rattle.command_words.specs.declared.command.Command.{Command}
use Rattle.command_words.specs.Commands.{Text, positional_of, is_option}

-- a text that isn't empty and doesn't begin with a hyphen
abbrev pub is_value : Text → Bool
is_value [] = false
is_value (b ∷ rest) = not (b == 45)

-- what follows a first byte
abbrev pub after_byte : ℕ → Text → Option Text
after_byte byte [] = None
after_byte byte (b ∷ rest) = if b == byte then Some rest else None

-- what stands before the first `=`, and what stands after it, if there is one
abbrev pub cut_at_sign : Text → Text × Option Text
cut_at_sign text = (
  before_first (λ b. b == 61) text,
  if list_any (λ b. b == 61) text
      then Some (after_first (λ b. b == 61) text) else None,
)

-- the name of `--name` or `--name=value`, and the value, if there is one
abbrev pub named : Text → Option (Text × Option Text)
named word = option_map cut_at_sign (option_and_then (after_byte 45) (after_byte 45 word))

-- a value, and what it is given to
pub record Part : Type 0 where
  pub name : Text
  pub value : Text

-- what a word is: it gives a value, or names an option whose value is the next word, or it isn't plain
pub data Met : Type 0 where
  gives : Part → Met
  waits : Text → Met
  refused : Met

-- a value is given, where the text is one
abbrev pub give : Text → Text → Met
give name text = if is_value text then gives (record { name = name; value = text }) else refused

-- an option's name, and the value in the same word, if there is one
abbrev pub meet_option : Text → Option Text → Met
meet_option name None = waits name
meet_option name (Some text) = give name text

-- a name, which may be no option's
abbrev pub meet_name : Command → Text → Option Text → Met
meet_name what name value = if is_option what name then meet_option name value else refused

-- a word of this form by itself
abbrev pub meet_free : Command → Text → Option (Text × Option Text) → Met
meet_free what word None = give (positional_of what) word
meet_free what word (Some p) = meet_name what p.0 p.1

-- what a word is after a name that waits for its value, or else by itself
abbrev pub meet : Command → Option Text → Text → Met
meet what None word = meet_free what word (named word)
meet what (Some name) word = give name word

abbrev pub then_parts : Met → (Option Text → Option (List Part)) → Option (List Part)
then_parts (gives part) rest = option_map (λ parts. part ∷ parts) (rest None)
then_parts (waits name) rest = rest (Some name)
then_parts refused rest = None

-- what the words give, in order, after a name that waits for its value, if there is one; none where a word isn't plain
unfoldable pub parts_from : Command → List Text → Option Text → Option (List Part)
parts_from what [] None = Some []
parts_from what [] (Some name) = None
parts_from what (word ∷ rest) waiting = then_parts (meet what waiting word) (parts_from what rest)

-- something is given to the name
abbrev pub is_given : Text → List Part → Bool
is_given name parts = list_any (λ part. bytes_eq part.name name) parts

-- what is given to the name
abbrev pub given : Text → List Part → Option Text
given name parts = option_map (λ part. part.value) (find (λ part. bytes_eq part.name name) parts)

-- nothing is given twice
abbrev pub are_once : List Part → Bool
are_once [] = true
are_once (part ∷ parts) = not (is_given part.name parts) && are_once parts

-- no option is given twice, and there is one positional word
abbrev pub are_plain : Command → List Part → Bool
are_plain what parts = are_once parts && is_given (positional_of what) parts

-- what plain words after a command give
abbrev pub plain_parts : Command → List Text → Option (List Part)
plain_parts what words = option_and_then (λ parts. if are_plain what parts then Some parts else None) (parts_from what words None)
