-- Laws of the definitions, as facts that clauses can name.
use Rattle.std.specs.Prelude.{◌↔◌, ℕ, List, length}
use Rattle.patterns.specs.Laws.{IsPermutationOf}
use Rattle.perm_core.specs.Perms.{IsPerm}

-- a word is a permutation exactly where it is one of those of its length
abbrev pub PermsAreThoseListed : Type 0
PermsAreThoseListed = (w : List ℕ) → IsPerm w ↔ IsPermutationOf (length w) w
