-- No word of a basis is empty.
use Rattle.std.proofs.Common.{◌<◌, ℕ, List, [], ◌∷◌, length}
use Rattle.std.specs.List.{AllByRecursion}
use Rattle.std.proofs.lemmas.List.Elements.{All-from_recursion, recursion_from_All}
use Rattle.perm_core.specs.Basis.{IsBasis, IsBasisPerm}
use Rattle.tile_rules.specs.Avoiding.{HasNoEmptyWord}

each_has_letters : (words : List (List ℕ)) → AllByRecursion IsBasisPerm words → AllByRecursion (λ w. 0 < length w) words
each_has_letters [] h = tt
each_has_letters (w ∷ words) h = (h.0.some, each_has_letters words h.1)

pub no_empty_word : (basis : List (List ℕ)) → IsBasis basis → HasNoEmptyWord basis
no_empty_word basis h = All-from_recursion (λ w. 0 < length w) basis (each_has_letters basis (recursion_from_All IsBasisPerm basis h.perms))

pub ruleset naming = (no_empty_word)
