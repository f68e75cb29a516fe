-- The test of a byte that each flaw names.
use Rattle.std.specs.Prelude.{ℕ, Bool, List}
use Rattle.perm_core.specs.declared.flaw.Flaw.{Flaw}
use Rattle.perm_core.specs.declared.flaw.Flaw.TheVariants.{NoDigit, SeenBefore, PastNine}
use Rattle.perm_core.specs.Basis.{is_no_digit, is_repeated, is_past_nine}

abbrev pub wrong_by : Flaw → List ℕ → ℕ → Bool
wrong_by NoDigit = is_no_digit
wrong_by SeenBefore = is_repeated
wrong_by PastNine = is_past_nine
