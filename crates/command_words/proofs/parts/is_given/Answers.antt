use Rattle.std.proofs.Common.{rules, tests, ◌∙◌}
use Rattle.std.specs.Str.{bytes_eq}
use Rattle.std.proofs.lemmas.Iterator.{YieldsList-from_slice}
use Rattle.std.proofs.lemmas.Iterator.Search.{any_from_yields_List}
use Rattle.clap.proofs.WalkLemmas.{list_any-map}
use Rattle.command_words.specs.Parts.{Part}
use Rattle.command_words.specs.Met.{part_as}
use Rattle.command_words.specs.declared.meet.Part.{Part as CodePart}
use Rattle.command_words.proofs.parts.is_given.Goals as goal

pub returns : goal.returns
returns c =
    any_from_yields_List (λ (p : CodePart). bytes_eq p.name.now c.args.name.now) _ _ _ c.any.ensures.ran (YieldsList-from_slice c.args.parts.now cc) (λ x r q k. search (rules, tests))
    ∙ list_any-map (λ (p : Part). bytes_eq p.name c.args.name.now) part_as c.args.parts.now
