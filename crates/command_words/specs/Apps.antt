-- The arguments of a command as the parser of words sees them, and the texts that it finds.
use Rattle.std.specs.Prelude.{◌≡◌, true, List, [], ◌∷◌, Option, Some, codes, option_map}
use Rattle.clap.specs.Words.{App, Rule, new_rule, new_app, with_rule}
use Rattle.clap.specs.declared.builder.action.ArgAction.TheVariants.{Set}
use Rattle.command_words.specs.declared.command.Command.{Command}
use Rattle.command_words.specs.declared.found.Texts.{Texts as CodeTexts}
use Rattle.command_words.specs.Commands.{Text, command_word, positional_of, options_of}
use Rattle.command_words.specs.Parts.{Part, given, plain_parts}

-- the positional word
abbrev pub positional_rule : Text → Rule
positional_rule name = record (new_rule name) { action = Some Set }

-- an option of one text
abbrev pub option_rule : Text → Rule
option_rule name = record (new_rule name) { long = Some name; action = Some Set }

-- a command with a positional word, and no flag of its own
unfoldable pub bare_app : Text → Text → App
bare_app word positional = let new = new_app word in with_rule (record new { top = record new.top { disable_help_flag = true } }) (positional_rule positional)

-- with one more option
unfoldable pub add_option : App → Text → App
add_option app name = with_rule app (option_rule name)

abbrev pub add_options : App → List Text → App
add_options app [] = app
add_options app (name ∷ names) = add_options (add_option app name) names

-- the arguments of a command
unfoldable pub app_for : Command → App
app_for what = add_options (bare_app (command_word what) (positional_of what)) (options_of what)

-- the texts of all names
pub record Texts : Type 0 where
  pub basis : Option Text
  pub number : Option Text
  pub workers : Option Text
  pub budget : Option Text
  pub terms : Option Text
  pub pack : Option Text

unfoldable pub texts_by : (Text → Option Text) → Texts
texts_by text = record { basis = text (codes "basis"); number = text (codes "number"); workers = text (codes "workers"); budget = text (codes "budget"); terms = text (codes "terms"); pack = text (codes "pack") }

-- those that parts give
abbrev pub texts_in : List Part → Texts
texts_in parts = texts_by (λ name. given name parts)

abbrev pub texts_as : CodeTexts → Texts
texts_as texts = record {
  basis = option_map (λ s. s.now) texts.basis;
  number = option_map (λ s. s.now) texts.number;
  workers = option_map (λ s. s.now) texts.workers;
  budget = option_map (λ s. s.now) texts.budget;
  terms = option_map (λ s. s.now) texts.terms;
  pack = option_map (λ s. s.now) texts.pack;
}

-- these are the texts that plain words after a command give
abbrev pub AreTextsOf : Command → List Text → CodeTexts → Type 0
AreTextsOf what words texts = (parts : List Part) → plain_parts what words ≡ Some parts → texts_as texts ≡ texts_in parts
