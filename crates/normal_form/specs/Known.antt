-- What is known of a tiling before its first step is looked for.
use Rattle.std.specs.Prelude.{◌≡◌, false}
use Rattle.gridded.specs.declared.Cell.{Cell}
use Rattle.tiling_core.specs.Tiles.{Tiles}
use Rattle.steps.specs.declared.Step.{Step}
use Rattle.steps.specs.declared.Step.TheVariants.{Min, Clean, Lists, Column, Row, Void}
use Rattle.steps.specs.Steps.{step_applies}
use Rattle.normal_form.specs.declared.known.Known.{Known}
use Rattle.normal_form.specs.declared.known.Known.TheVariants.{Nothing, Minimal, LinesAlone}

-- no step but Column and Row applies
pub record OnlyLines (t : Tiles) : Type 0 where
  pub void : step_applies Void t ≡ false
  pub min : step_applies Min t ≡ false
  pub clean : (c : Cell) → step_applies (Clean c) t ≡ false
  pub lists : step_applies Lists t ≡ false

abbrev pub IsKnown : Known → Tiles → Type 0
IsKnown Nothing t = Unit {0}
IsKnown Minimal t = step_applies Min t ≡ false
IsKnown LinesAlone t = OnlyLines t

-- what is known after a step that was the first to apply
abbrev pub known_after : Step → Known
known_after Min = Minimal
known_after Lists = Minimal
known_after (Column x) = LinesAlone
known_after (Row y) = LinesAlone
known_after (Clean c) = Nothing
known_after Void = Nothing
