-- The commands, and the words that each takes.
use Rattle.std.specs.Prelude.{ℕ, Bool, List, [], ◌∷◌, Option, Some, None, codes, if◌then◌else◌}
use Rattle.std.specs.List.{list_any}
use Rattle.std.specs.Str.{bytes_eq}
use Rattle.command_words.specs.declared.command.Command.{Command}
use Rattle.command_words.specs.declared.command.Command.TheVariants as command

abbrev pub Text : Type 0
Text = List ℕ

-- the word of a command
abbrev pub command_word : Command → Text
command_word command.Search = codes "search"
command_word command.Check = codes "check"
command_word command.Terms = codes "terms"
command_word command.Count = codes "count"
command_word command.Sample = codes "sample"

-- the command of a word
abbrev pub command_of : Text → Option Command
command_of word =
    if bytes_eq word (codes "search") then Some command.Search
    else (if bytes_eq word (codes "check") then Some command.Check
    else (if bytes_eq word (codes "terms") then Some command.Terms
    else (if bytes_eq word (codes "count") then Some command.Count
    else (if bytes_eq word (codes "sample") then Some command.Sample
    else None))))

-- the name of what a command's one positional word gives
abbrev pub positional_of : Command → Text
positional_of command.Search = codes "basis"
positional_of command.Check = codes "basis"
positional_of command.Terms = codes "basis"
positional_of command.Count = codes "basis"
positional_of command.Sample = codes "number"

-- the names of a command's options
abbrev pub options_of : Command → List Text
options_of command.Search = codes "workers" ∷ codes "budget" ∷ codes "terms" ∷ codes "pack" ∷ []
options_of command.Check = []
options_of command.Terms = []
options_of command.Count = codes "terms" ∷ []
options_of command.Sample = []

abbrev pub is_option : Command → Text → Bool
is_option what name = list_any (λ option. bytes_eq name option) (options_of what)
