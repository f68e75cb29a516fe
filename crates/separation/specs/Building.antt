-- Which kinds are cuts, when one is refused, and the sides of the child.
use Rattle.std.specs.Prelude.{◌≡◌, ◌+◌, Bool, true, false, ◌&&◌}
use Rattle.gridded.specs.declared.axis.Axis.{Axis}
use Rattle.gridded.specs.declared.cell.Cell.{Cell}
use Rattle.gridded.specs.Axes.{line_of, with_line}
use Rattle.steps.specs.Steps.{sides}
use Rattle.tiling_core.specs.Tiles.{Tiles}
use Rattle.rule_kinds.specs.declared.kind.Kind.{Kind}
use Rattle.rule_kinds.specs.declared.kind.Kind.TheVariants as kind
use Rattle.rule_kinds.specs.declared.fault.RawFault.{RawFault}
use Rattle.rule_kinds.specs.declared.fault.RawFault.TheVariants as raw
use Rattle.rule_kinds.specs.Conditions.{applies}

abbrev pub is_cut : Kind → Bool
is_cut (kind.RowCut y set) = true
is_cut (kind.ColumnCut x set) = true
is_cut _ = false

-- another kind, or a cut whose condition fails; want of memory has no cause here
abbrev pub IsRefused : Tiles → Kind → RawFault → Type 0
IsRefused t k raw.NotApplicable = (is_cut k && applies t k) ≡ false
IsRefused t k raw.Memory = Unit {0}

-- the sides where one line is there once more
abbrev pub wider : Axis → Tiles → Cell
wider a t = with_line a (line_of a (sides t) + 1) (sides t)
