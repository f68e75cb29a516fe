-- Checking a text as it comes from a source.
use Rattle.std.specs.Prelude.{◌≡◌, ◌≢◌, ◌≤◌, ◌+◌, ℕ, List, ◌++◌, length, Option, Result, Ok, Err}
use Rattle.std.specs.Io.KnownBytes.{Consumes}
use Rattle.outside.specs.Reading.{IsWhole, Took, TookAtMost}
use Rattle.spec_checker.specs.declared.verdict.Checked.{Checked}
use Rattle.spec_checker.specs.declared.verdict.CheckFault.{CheckFault}
use Rattle.spec_checker.specs.declared.verdict.CheckFault.TheVariants as fault
use Rattle.spec_checker.specs.Pieces.{CheckingState, HasReadFor, IsFoundOut}
use Rattle.tilescope.specs.declared.stream.StreamFault.{StreamFault}
use Rattle.tilescope.specs.declared.stream.StreamFault.TheVariants.{Read, TooLong, Check, Memory}
use Rattle.tilescope.specs.Words.{Text}

-- a checking has read these bytes after those that it had read before
abbrev pub HasReadOn : CheckingState → CheckingState → Text → Type 0
HasReadOn old new bytes = (basis : List (List ℕ)) (earlier : Text) → HasReadFor basis earlier old → HasReadFor basis (earlier ++ bytes) new

-- a source gave so many bytes, and a checking has read them
pub record HasFed (many : ℕ) (before after : Option Text) (old new : CheckingState) : Type 0 where
  pub bytes : Text
  pub took : Consumes before after bytes
  pub counted : length bytes ≡ many
  pub read : HasReadOn old new bytes

-- a source gave all that it had left, not too much, and a checking has read it
pub record HasFedAll (limit : ℕ) (before after : Option Text) (old new : CheckingState) : Type 0 where
  pub bytes : Text
  pub whole : IsWhole before after bytes
  pub few : length bytes ≤ limit
  pub read : HasReadOn old new bytes

-- why a checking wasn't fed to the end, given that the count of faults rose where a call failed
abbrev pub IsFeedRefusal : Type 0 → ℕ → Option Text → Option Text → StreamFault → Type 0
IsFeedRefusal Rose limit before after Read = Rose × TookAtMost before after limit
IsFeedRefusal Rose limit before after (TooLong passed) = (passed ≡ limit) × Took before after (limit + 1)
IsFeedRefusal Rose limit before after (Check why) = ⊥
IsFeedRefusal Rose limit before after Memory = TookAtMost before after limit

-- all that the source had left was read, not too much, and this is found of it
pub record IsFoundOutWhole (basis : List (List ℕ)) (limit : ℕ) (before after : Option Text) (result : Result Checked CheckFault) : Type 0 where
  pub bytes : Text
  pub whole : IsWhole before after bytes
  pub few : length bytes ≤ limit
  pub found : IsFoundOut basis bytes result

-- what is answered for a source: what is found of all that it had left, or why that wasn't read
abbrev pub IsStreamAnswer : List (List ℕ) → Type 0 → ℕ → Option Text → Option Text → Result Checked StreamFault → Type 0
IsStreamAnswer basis Rose limit before after (Ok checked) = IsFoundOutWhole basis limit before after (Ok checked)
IsStreamAnswer basis Rose limit before after (Err (Check why)) = (why ≢ fault.Memory) × IsFoundOutWhole basis limit before after (Err why)
IsStreamAnswer basis Rose limit before after (Err Read) = Rose × TookAtMost before after limit
IsStreamAnswer basis Rose limit before after (Err (TooLong passed)) = (passed ≡ limit) × Took before after (limit + 1)
IsStreamAnswer basis Rose limit before after (Err Memory) = TookAtMost before after limit
