-- The stages of the classes by number.
use Rattle.std.specs.Prelude.{◌≡◌, ◌<◌, ℕ, suc, Bool, true, false, List, [], ◌∷◌, slice_index_or}
use Rattle.css_ledger.specs.declared.stage.Stage.{Stage}
use Rattle.css_ledger.specs.declared.stage.Stage.TheVariants.{Fresh, Out, Done}

abbrev pub is_fresh : Stage → Bool
is_fresh Fresh = true
is_fresh Out = false
is_fresh Done = false

abbrev pub is_out : Stage → Bool
is_out Fresh = false
is_out Out = true
is_out Done = false

abbrev pub is_done : Stage → Bool
is_done Fresh = false
is_done Out = false
is_done Done = true

-- the stage of a number; past the end there is none that tells
abbrev pub stage_at : List Stage → ℕ → Stage
stage_at stages n = slice_index_or stages n Fresh

-- the numbers whose class is out, where the first has the number i
abbrev pub with_out : ℕ → Stage → List ℕ → List ℕ
with_out i Out numbers = i ∷ numbers
with_out i Fresh numbers = numbers
with_out i Done numbers = numbers

abbrev pub outs_from : ℕ → List Stage → List ℕ
outs_from i [] = []
outs_from i (s ∷ stages) = with_out i s (outs_from (suc i) stages)

unfoldable pub outs : List Stage → List ℕ
outs stages = outs_from 0 stages

-- no number below the mark is that of a fresh class
abbrev pub IsNoneFresh : ℕ → List Stage → Type 0
IsNoneFresh low stages = (n : ℕ) → n < low → is_fresh (stage_at stages n) ≡ false
