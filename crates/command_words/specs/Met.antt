-- What the code keeps of a word, as what the word is.
use Rattle.command_words.specs.declared.meet.Met.{Met as CodeMet}
use Rattle.command_words.specs.declared.meet.Met.TheVariants as code
use Rattle.command_words.specs.declared.meet.Part.{Part as CodePart}
use Rattle.command_words.specs.Parts.{Part, Met, gives, waits, refused}

abbrev pub part_as : CodePart → Part
part_as part = record { name = part.name.now; value = part.value.now }

abbrev pub met_as : CodeMet → Met
met_as (code.Gives part) = gives (part_as part)
met_as (code.Waits name) = waits name.now
met_as code.Refused = refused
