-- Which kinds are factorings, and when one is refused.
use Rattle.std.specs.Prelude.{◌≡◌, Bool, true, false, ◌&&◌}
use Rattle.tiling_core.specs.Tiles.{Tiles}
use Rattle.rule_kinds.specs.declared.kind.Kind.{Kind}
use Rattle.rule_kinds.specs.declared.kind.Kind.TheVariants as kind
use Rattle.rule_kinds.specs.declared.fault.RawFault.{RawFault}
use Rattle.rule_kinds.specs.declared.fault.RawFault.TheVariants as raw
use Rattle.rule_kinds.specs.Conditions.{applies}

abbrev pub is_factor : Kind → Bool
is_factor (kind.Factor sets) = true
is_factor _ = false

-- another kind, or a factoring whose condition fails; want of memory has no cause here
abbrev pub IsRefused : Tiles → Kind → RawFault → Type 0
IsRefused t k raw.NotApplicable = (is_factor k && applies t k) ≡ false
IsRefused t k raw.Memory = Unit {0}
