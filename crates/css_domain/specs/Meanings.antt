-- What contracts see of a domain, whose classes are values of C and whose rules are values of R.
use Rattle.std.specs.Prelude.{ℕ, Bool, List}
use Rattle.css_domain.specs.declared.shape.Shape.{Shape}

-- `count` is the number of members of a length; `complete` says, for a rulebook, that a list of rules is the
-- complete filing of a class
pub record Meaning (C R : Type 0) : Type 1 where
  pub same : C → C → Bool
  pub positive : C → Bool
  pub count : C → ℕ → ℕ
  pub parent : R → C
  pub children : R → List C
  pub shape : R → Shape
  pub holds : R → Type 0
  pub complete : ℕ → C → List R → Type 0
