-- Which kinds are placements, and when one is refused.
use Rattle.std.specs.Prelude.{◌≡◌, Bool, true, false, ◌&&◌}
use Rattle.tiling_core.specs.Tiles.{Tiles}
use Rattle.rule_kinds.specs.declared.kind.Kind.{Kind}
use Rattle.rule_kinds.specs.declared.kind.Kind.TheVariants as kind
use Rattle.rule_kinds.specs.declared.fault.RawFault.{RawFault}
use Rattle.rule_kinds.specs.declared.fault.RawFault.TheVariants as raw
use Rattle.rule_kinds.specs.Conditions.{applies}

abbrev pub is_placement : Kind → Bool
is_placement (kind.Place qs d) = true
is_placement _ = false

-- another kind, or a placement whose condition fails; want of memory has no cause here
abbrev pub IsRefused : Tiles → Kind → RawFault → Type 0
IsRefused t k raw.NotApplicable = (is_placement k && applies t k) ≡ false
IsRefused t k raw.Memory = Unit {0}
