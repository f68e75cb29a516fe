-- What reading a source to its end answers, where it tells its bytes.
use Rattle.std.specs.Prelude.{◌≡◌, ℕ, ◌+◌, ◌≤◌, List, [], drop, length, Option, Some, IfSome}
use Rattle.outside.specs.declared.faults.ReadFault.{ReadFault}
use Rattle.outside.specs.declared.faults.ReadFault.TheVariants.{Read, TooLong, Memory}

-- these are all the bytes that were still to come, and nothing is left
abbrev pub IsWhole : Option (List ℕ) → Option (List ℕ) → List ℕ → Type 0
IsWhole before now all = IfSome before (λ bytes. (all ≡ bytes) × (now ≡ Some []))

-- the first bytes were taken, of which there are as many as this
abbrev pub Took : Option (List ℕ) → Option (List ℕ) → ℕ → Type 0
Took before now count = IfSome before (λ bytes. (count ≤ length bytes) × (now ≡ Some (drop count bytes)))

-- some bytes were taken, at most as many as this
abbrev pub TookAtMost : Option (List ℕ) → Option (List ℕ) → ℕ → Type 0
TookAtMost before now most = (count : ℕ) × (count ≤ most) × Took before now count

-- what a refusal says, given that the count of faults rose where a call failed: which limit was passed, and what
-- was taken
abbrev pub IsReadRefusal : Type 0 → ℕ → Option (List ℕ) → Option (List ℕ) → ReadFault → Type 0
IsReadRefusal Rose limit before now Read = Rose × TookAtMost before now limit
IsReadRefusal Rose limit before now (TooLong passed) = (passed ≡ limit) × Took before now (limit + 1)
IsReadRefusal Rose limit before now Memory = TookAtMost before now limit
