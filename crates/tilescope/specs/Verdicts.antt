-- What the commands that read a text answer of it: the lines that say whether it is accepted.
use Rattle.std.specs.Prelude.{◌≡◌, ◌≢◌, ℕ, List, [], ◌++◌, length, codes, decimal}
use Rattle.css_terms.specs.declared.term.Term.{Term}
use Rattle.spec_lines.specs.Lines.{Text}
use Rattle.spec_lines.specs.Terms.{terms_line}
use Rattle.spec_checker.specs.declared.verdict.CheckFault.{CheckFault}
use Rattle.spec_checker.specs.declared.verdict.CheckFault.TheVariants as fault
use Rattle.spec_checker.specs.Accepting.{Accepts, IsAccepted, AreCounts}
use Rattle.spec_checker.specs.Refusing.{IsRefused}
use Rattle.command_words.specs.declared.command.Command.{Command}
use Rattle.command_words.specs.declared.command.Command.TheVariants as command
use Rattle.command_words.specs.declared.request.Request.{Request}

-- so many bytes are read or written at most
abbrev pub most_bytes : ℕ
most_bytes = 268435456

-- why a text is refused; want of memory is said by the status alone
abbrev pub refusal_text : CheckFault → Text
refusal_text (fault.Grammar line) = codes "grammar " ++ decimal line
refusal_text (fault.Limit line) = codes "limit " ++ decimal line
refusal_text fault.OtherBasis = codes "basis"
refusal_text fault.Root = codes "root"
refusal_text (fault.Rule entry) = codes "rule " ++ decimal entry
refusal_text (fault.Rank entry child) = codes "rank " ++ decimal entry ++ (codes " " ++ decimal child)
refusal_text (fault.Terms n) = codes "terms " ++ decimal n
refusal_text fault.Memory = []

abbrev pub rejected_line : CheckFault → Text
rejected_line why = codes "rejected " ++ refusal_text why ++ codes "\n"

-- how many entries and terms an accepted text has
abbrev pub accepted_line : ℕ → ℕ → Text
accepted_line entries terms = codes "accepted " ++ decimal entries ++ (codes " " ++ decimal terms) ++ codes "\n"

-- what a command writes of an accepted text: `terms` its line of terms, and `check` how many entries and terms it has
abbrev pub checked_line : Command → ℕ → List Term → Text
checked_line command.Terms entries terms = terms_line terms
checked_line command.Check entries terms = accepted_line entries (length terms)
checked_line command.Search entries terms = accepted_line entries (length terms)
checked_line command.Count entries terms = accepted_line entries (length terms)
checked_line command.Sample entries terms = accepted_line entries (length terms)

-- the status and the line of a refusal, unless memory ran out
pub record IsRejection (why : CheckFault) (status : ℕ) (text : Text) : Type 0 where
  pub not_memory : why ≢ fault.Memory
  pub ends : status ≡ 3
  pub says : text ≡ rejected_line why

-- the status and the line for these bytes: they are accepted for the basis, and their exact terms are the numbers of its avoiders, or they are refused with a fault
pub data IsVerdict (request : Request) (bytes : Text) : ℕ → Text → Type 0 where
  accepted : (entries : ℕ) (terms : List Term) → IsAccepted request.basis bytes entries terms → AreCounts request.basis terms → IsVerdict request bytes 0 (checked_line request.command entries terms)
  rejected : (why : CheckFault) → why ≢ fault.Memory → IsRefused request.basis bytes why → (Accepts request.basis bytes → ⊥) → IsVerdict request bytes 3 (rejected_line why)
