-- What a source has left and what a sink holds, where they tell it.
use Rattle.std.specs.Prelude.{◌≡◌, ℕ, List, [], ◌++◌, take, Option, Some, None, Result, Ok, Err}

-- how many bytes a call moved
abbrev pub moved_count : {E : Type 0} → Result ℕ E → ℕ
moved_count (Ok n) = n
moved_count (Err e) = 0

-- the bytes that a call moved: the first ones of these, and none where it failed
abbrev pub moved : {E : Type 0} → Result ℕ E → List ℕ → List ℕ
moved (Ok n) bytes = take n bytes
moved (Err e) bytes = []

-- where a sink tells what it holds, it told it before, and it holds these bytes more, at the end
abbrev pub GrewBy : Option (List ℕ) → Option (List ℕ) → List ℕ → Type 0
GrewBy before None more = Unit {0}
GrewBy None (Some now) more = ⊥
GrewBy (Some before) (Some now) more = now ≡ before ++ more

-- it holds some of these bytes more, from the first on
abbrev pub GrewByPrefix : Option (List ℕ) → Option (List ℕ) → List ℕ → Type 0
GrewByPrefix before now bytes = (n : ℕ) × GrewBy before now (take n bytes)
