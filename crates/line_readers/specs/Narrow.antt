-- Values of the form in the types that hold what is in range.
use Rattle.std.specs.Prelude.{◌≡◌, Bool, true, false, Option, Some, None}

-- a narrow value of a value that fits, nothing for one that doesn't
abbrev pub IsNarrowed : {X Y : Type 0} → (X → Bool) → (Y → X) → X → Option Y → Type 0
IsNarrowed fits wide x None = fits x ≡ false
IsNarrowed fits wide x (Some y) = (fits x ≡ true) × (wide y ≡ x)
