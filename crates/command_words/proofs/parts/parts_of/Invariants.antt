use Rattle.std.proofs.Common.{◌≡◌, ◌++◌, drop, map, option_map}
use Rattle.std.specs.Prelude.{None, string_bytes}
use Rattle.command_words.specs.Met.{part_as}
use Rattle.command_words.specs.Parts.{parts_from}
use Rattle.command_words.proofs.parts.parts_of.Given as goal

abbrev pub invariant-loop-word : goal.invariant-loop-word
invariant-loop-word l = option_map (λ more. map part_as l.parts.items ++ more) (parts_from l.command (map string_bytes (drop l.word-index l.words)) (option_map (λ s. s.now) l.waiting)) ≡ parts_from l.command (map string_bytes l.words) None
