use Rattle.std.proofs.Common.{◌≡◌, map, take}
use Rattle.patterns.specs.Ranks.{standardised}
use Rattle.perm_core.proofs.basis.standardised_words.Given as goal

abbrev pub invariant-loop-word : goal.invariant-loop-word
invariant-loop-word l = l.perms.items ≡ map standardised (map (λ w. w.now) (take l.word-index l.words))
