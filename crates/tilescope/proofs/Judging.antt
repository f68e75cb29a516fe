-- The verdict on a text, from what the checker says.
use Rattle.std.proofs.Common.{ℕ, List, ◌≡◌, refl, subst}
use Rattle.std.specs.Prelude.{◌≢◌, Result, Err, IsOk}
use Rattle.spec_checker.specs.declared.verdict.CheckFault.{CheckFault}
use Rattle.spec_checker.specs.declared.verdict.CheckFault.TheVariants as fault
use Rattle.spec_checker.specs.Accepting.{Accepts}
use Rattle.spec_checker.specs.Refusing.{IsRefused, UnlessMemory}
use Rattle.command_words.specs.declared.request.Request.{Request}
use Rattle.tilescope.specs.Words.{Text}
use Rattle.tilescope.specs.Verdicts.{IsVerdict, IsRejection}
use Rattle.tilescope.specs.Verdicts.IsVerdict.{rejected}

-- an answer that is this refusal
abbrev as_refusal : (X : Type 0) → CheckFault → Result X CheckFault
as_refusal X why = Err why

-- a text that is refused isn't accepted
not_accepted : (X : Type 0) (basis : List (List ℕ)) (bytes : Text) (why : CheckFault) → why ≢ fault.Memory → (Accepts basis bytes → UnlessMemory (as_refusal X why) (IsOk (as_refusal X why))) → Accepts basis bytes → ⊥
not_accepted X basis bytes (fault.Grammar line) ne h a = let f = h a in absurd cc
not_accepted X basis bytes (fault.Limit line) ne h a = let f = h a in absurd cc
not_accepted X basis bytes fault.OtherBasis ne h a = let f = h a in absurd cc
not_accepted X basis bytes fault.Root ne h a = let f = h a in absurd cc
not_accepted X basis bytes (fault.Rule entry) ne h a = let f = h a in absurd cc
not_accepted X basis bytes (fault.Rank entry child) ne h a = let f = h a in absurd cc
not_accepted X basis bytes (fault.Terms n) ne h a = let f = h a in absurd cc
not_accepted X basis bytes fault.Memory ne h a = ne refl

pub rejected_by : (X : Type 0) (request : Request) (basis : List (List ℕ)) (bytes : Text) (why : CheckFault) → basis ≡ request.basis → IsRefused basis bytes why → (Accepts basis bytes → UnlessMemory (as_refusal X why) (IsOk (as_refusal X why))) → (status : ℕ) (line : Text) → IsRejection why status line → IsVerdict request bytes status line
rejected_by X request basis bytes why same r h status line is =
    rw (is.ends, is.says)
    (rejected why is.not_memory (subst (λ (words : List (List ℕ)). IsRefused words bytes why) same r)
    (subst (λ (words : List (List ℕ)). Accepts words bytes → ⊥) same (not_accepted X basis bytes why is.not_memory h)))
