-- The kinds of rules.
use Rattle.std.specs.Prelude.{◌<◌, ℕ, Bool, nat_lt, List, length, slice_index_or, All}
use Rattle.gridded.specs.declared.axis.Axis.{Axis}
use Rattle.gridded.specs.declared.axis.Axis.TheVariants as axis
use Rattle.gridded.specs.declared.cell.Cell.{Cell}
use Rattle.gridded.specs.CellSets.{IsCellSet}
use Rattle.gridded.specs.Grids.{Point, IsGridded, corner}
use Rattle.tiling_core.specs.Tiles.{AreGridded}
use Rattle.css_domain.specs.declared.shape.Shape.{Shape}
use Rattle.css_domain.specs.declared.shape.Shape.TheVariants.{Union, Product, Atom, Nothing}
use Rattle.rule_kinds.specs.Pointeds.{PointedPattern}
use Rattle.rule_kinds.specs.declared.kind.Direction.{Direction}
use Rattle.rule_kinds.specs.declared.kind.Direction.TheVariants.{North, South, East, West}
use Rattle.rule_kinds.specs.declared.kind.Kind.{Kind}
use Rattle.rule_kinds.specs.declared.kind.Kind.TheVariants as kind

-- the point at a place
abbrev pub point_of : List Point → ℕ → Point
point_of g index = slice_index_or g index (record { letter = 0; cell = corner })

abbrev pub pointed_cell : PointedPattern → Cell
pointed_cell q = (point_of q.pattern q.index).cell

-- North and South compare rows, East and West columns
abbrev pub axis_of : Direction → Axis
axis_of North = axis.Row
axis_of South = axis.Row
axis_of East = axis.Column
axis_of West = axis.Column

-- whether one place along that axis lies farther in the direction than another
abbrev pub is_farther : Direction → ℕ → ℕ → Bool
is_farther North a b = nat_lt b a
is_farther South a b = nat_lt a b
is_farther East a b = nat_lt b a
is_farther West a b = nat_lt a b

abbrev pub cut_kind : Axis → ℕ → List Cell → Kind
cut_kind axis.Row y set = kind.RowCut y set
cut_kind axis.Column x set = kind.ColumnCut x set

-- how the children's counts make the parent's
abbrev pub shape_of : Kind → Shape
shape_of kind.Unit = Atom 0
shape_of kind.Point = Atom 1
shape_of kind.Void = Nothing
shape_of (kind.Insert r) = Union
shape_of (kind.Place qs d) = Union
shape_of (kind.RowCut y set) = Union
shape_of (kind.ColumnCut x set) = Union
shape_of (kind.Factor sets) = Product
shape_of (kind.Infer patterns) = Union

-- what the type of a pointed pattern keeps
pub record IsPointed (q : PointedPattern) : Type 0 where
  pub gridded : IsGridded q.pattern
  pub place : q.index < length q.pattern

-- what the types of a kind's parts keep
abbrev pub IsKept : Kind → Type 0
IsKept kind.Unit = Unit {0}
IsKept kind.Point = Unit {0}
IsKept kind.Void = Unit {0}
IsKept (kind.Insert r) = IsGridded r
IsKept (kind.Place qs d) = All IsPointed qs
IsKept (kind.RowCut y set) = IsCellSet set
IsKept (kind.ColumnCut x set) = IsCellSet set
IsKept (kind.Factor sets) = All IsCellSet sets
IsKept (kind.Infer patterns) = AreGridded patterns
