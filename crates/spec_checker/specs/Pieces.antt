-- Checking a text that comes in pieces, cut anywhere, and all that is found of a text.
use Rattle.std.specs.Prelude.{◌≡◌, ◌≢◌, ℕ, List, IsOk, IfOk, IfErr, Result, Err}
use Rattle.spec_lines.specs.Lines.{Text}
use Rattle.spec_reader.specs.Pieces.{PiecesState, HasReadBytes}
use Rattle.spec_checker.specs.declared.verdict.Checked.{Checked}
use Rattle.spec_checker.specs.declared.verdict.CheckFault.{CheckFault}
use Rattle.spec_checker.specs.declared.verdict.CheckFault.TheVariants as fault
use Rattle.spec_checker.specs.Accepting.{Accepts, IsAccepted, AreCounts}
use Rattle.spec_checker.specs.Refusing.{IsRefused, UnlessMemory}

-- what contracts see of a checking: its basis, and what has been read of the text
pub record CheckingState : Type 0 where
  pub basis : List (List ℕ)
  pub read : PiecesState

-- these bytes have been read for the basis
pub record HasReadFor (basis : List (List ℕ)) (bytes : Text) (s : CheckingState) : Type 0 where
  pub own : s.basis ≡ basis
  pub bytes_read : HasReadBytes bytes s.read

-- the text is accepted for the basis with these entries and terms, exactly where it is one that is accepted, and else it is refused with its fault, unless memory ran out
pub record IsFoundOut (basis : List (List ℕ)) (bytes : Text) (result : Result Checked CheckFault) : Type 0 where
  pub accepted : IfOk result (λ c. IsAccepted basis bytes c.entries c.terms.items)
  pub accepts : Accepts basis bytes → UnlessMemory result (IsOk result)
  pub refused : IfErr result (λ why. IsRefused basis bytes why)
  pub refuses : (why : CheckFault) → why ≢ fault.Memory → IsRefused basis bytes why → UnlessMemory result (result ≡ Err why)
  pub counts : IfOk result (λ c. AreCounts basis c.terms.items)
