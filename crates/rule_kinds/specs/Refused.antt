-- When raw children are refused.
use Rattle.std.specs.Prelude.{◌≡◌, false}
use Rattle.tiling_core.specs.Tiles.{Tiles}
use Rattle.rule_kinds.specs.declared.kind.Kind.{Kind}
use Rattle.rule_kinds.specs.declared.fault.RawFault.{RawFault}
use Rattle.rule_kinds.specs.declared.fault.RawFault.TheVariants as raw
use Rattle.rule_kinds.specs.Conditions.{applies}

-- the kind's condition fails; want of memory has no cause here
abbrev pub IsRawRefused : Tiles → Kind → RawFault → Type 0
IsRawRefused t k raw.NotApplicable = applies t k ≡ false
IsRawRefused t k raw.Memory = Unit {0}
