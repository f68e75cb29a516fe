use Rattle.std.proofs.Common.{◌≡◌, drop, map}
use Rattle.command_words.specs.Met.{part_as}
use Rattle.command_words.specs.Parts.{are_once}
use Rattle.command_words.proofs.parts.are_once.Given as goal

abbrev pub invariant-loop-place : goal.invariant-loop-place
invariant-loop-place l = record { told : are_once (map part_as (drop l.place l.parts)) ≡ are_once (map part_as l.parts) }
