-- Readings with a condition, and readings that the code's types are narrower than.
use Rattle.std.specs.Prelude.{◌≡◌, Bool, true, false, Option, Some, None, option_and_then}
use Rattle.spec_lines.specs.Lines.{Text}
use Rattle.spec_lines.specs.Items.{keep_if}

-- what is read, where the test holds of it
abbrev pub where_it : {X : Type 0} → (X → Bool) → Option X → Option X
where_it test read = option_and_then (λ x. keep_if (test x) x) read
