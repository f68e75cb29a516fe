use Rattle.std.proofs.Common.{◌≡◌, Some, map, take}
use Rattle.spec_text.specs.Joining.{class_of}
use Rattle.spec_text.proofs.families.family.Given as goal

abbrev pub invariant-loop-number : goal.invariant-loop-number
invariant-loop-number l = map Some l.family.items ≡ map (class_of l.drafts) (take l.number-index l.numbers)
