-- What a reader answers, where its types are narrower than the form.
use Rattle.std.specs.Prelude.{◌≡◌, ◌^◌, ⊤, ℕ, Bool, true, false, nat_eq, Option, Some, None, Result, Ok, Err}
use Rattle.rule_kinds.specs.declared.kind.Kind.{Kind}
use Rattle.spec_lines.specs.Forms.{Line, is_kind}
use Rattle.spec_lines.specs.Forms.Line.{Entry}
use Rattle.spec_lines.specs.Ranges.{Seen, is_in_range, is_kind_in_range}
use Rattle.line_readers.specs.Kept.{where_it}
use Rattle.line_readers.specs.declared.fault.ItemFault.{ItemFault}
use Rattle.line_readers.specs.declared.fault.ItemFault.TheVariants.{Form, Range, Memory}

-- A value where one is read that is in range, Form where none is read, Range where one is read that isn't in range; want of memory is
-- free.
abbrev pub IsAnswer : {R X : Type 0} → Option X → (X → Bool) → (R → X) → Result R ItemFault → Type 0
IsAnswer read in_range of (Ok r) = (read ≡ Some (of r)) × (in_range (of r) ≡ true)
IsAnswer read in_range of (Err Form) = read ≡ None
IsAnswer {R = R} {X = X} read in_range of (Err Range) = (x : X) × (read ≡ Some x) × (in_range x ≡ false)
IsAnswer read in_range of (Err Memory) = ⊤

-- what is seen of other lines where a line stands alone: any child and any cell of two digits is in range
abbrev pub nothing_else : Seen
nothing_else = record { entries = 2 ^ 32; width = 10; height = 10 }

-- the answer for a line by what it is read as
abbrev pub IsLineAnswer : {R : Type 0} → Option Line → (R → Line) → Result R ItemFault → Type 0
IsLineAnswer read line_of result = IsAnswer read (is_in_range nothing_else) line_of result

-- the answer for the items of a rule by the kind that they are read as
abbrev pub IsKindAnswer : Option Kind → Result Kind ItemFault → Type 0
IsKindAnswer read result = IsAnswer (where_it is_kind read) is_kind_in_range (λ k. k) result

-- if the line is an entry's, it is that of this number
abbrev pub is_numbered : ℕ → Line → Bool
is_numbered n (Entry number rank) = nat_eq number n
is_numbered n _ = true
