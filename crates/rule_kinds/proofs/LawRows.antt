-- Members are carried and brought back, tried on all short members of some tilings: once for each direction
-- and for each side of each cut.
use Rattle.std.specs.Prelude.{◌≡◌, ℕ, zero, suc, Bool, true, ◌&&◌, ◌==◌, List, [], ◌∷◌, refl, filter, sum_by}
use Rattle.std.specs.List.{list_all, range_with_len}
use Rattle.patterns.specs.Occurs as X
use Rattle.gridded.specs.Grids.{Point, gridded_of}
use Rattle.gridded.specs.Orders.{gridded_eq}
use Rattle.tiling_core.specs.Tiles.{Tiles, is_member, count}
use Rattle.rule_kinds.specs.Children as C
use Rattle.rule_kinds.specs.Conditions as D
use Rattle.rule_kinds.specs.declared.kind.Direction.TheVariants.{North, South, East, West}
use Rattle.rule_kinds.specs.declared.kind.Kind.{Kind}
use Rattle.rule_kinds.specs.declared.kind.Kind.TheVariants.{RowCut, ColumnCut}
use Rattle.rule_kinds.specs.Children.{raw_children}
use Rattle.rule_kinds.specs.Conditions.{applies}
use Rattle.rule_kinds.specs.Carry.{Image, carry, back}
use Rattle.rule_kinds.proofs.CarryRows.{placing}
use Rattle.rule_kinds.proofs.Texts.{cell, p01, p10}

abbrev pub members : Tiles → ℕ → List (List Point)
members t n = filter (is_member t) (gridded_of t.width t.height n)

abbrev pub child : Tiles → Kind → ℕ → Tiles
child t k j = nth j (raw_children t k)
  where
    nth : ℕ → List Tiles → Tiles
    nth j [] = t
    nth zero (u ∷ us) = u
    nth (suc j) (u ∷ us) = nth j us

-- the image is a member of its child, and the way back leads from it to g
abbrev pub is_carried : Tiles → Kind → List Point → Bool
is_carried t k g = let i : Image = carry k g in is_member (child t k i.child) i.member && gridded_eq (back t k i) g

-- each member of length n is carried, and the children have as many members
abbrev pub is_lawful : Tiles → Kind → ℕ → Bool
is_lawful t k n = applies t k && list_all (is_carried t k) (members t n) && sum_by (λ c. count c n) (raw_children t k) == count t n

abbrev pub is_lawful_to : Tiles → Kind → ℕ → Bool
is_lawful_to t k n = list_all (is_lawful t k) (range_with_len 0 (suc n))

-- ---- the sides of cuts
abbrev pub side_by_side : List Point → Tiles
side_by_side g = record { width = 2; height = 1; obstructions = g ∷ []; requirements = [] }

abbrev pub stacked : List Point → Tiles
stacked g = record { width = 1; height = 2; obstructions = g ∷ []; requirements = [] }

cut_right : is_lawful_to (side_by_side (p01 0 10)) (RowCut 0 (cell 10 ∷ [])) 2 ≡ true
unfolding X.occurs C.raw_children D.applies
cut_right = refl

cut_left : is_lawful_to (side_by_side (p10 0 10)) (RowCut 0 (cell 0 ∷ [])) 2 ≡ true
unfolding X.occurs C.raw_children D.applies
cut_left = refl

cut_high : is_lawful_to (stacked (p01 0 1)) (ColumnCut 0 (cell 1 ∷ [])) 2 ≡ true
unfolding X.occurs C.raw_children D.applies
cut_high = refl

cut_low : is_lawful_to (stacked (p10 1 0)) (ColumnCut 0 (cell 0 ∷ [])) 2 ≡ true
unfolding X.occurs C.raw_children D.applies
cut_low = refl

-- ---- directions
abbrev pub falling_only : Tiles
falling_only = record { width = 1; height = 1; obstructions = p01 0 0 ∷ []; requirements = [] }

north : is_lawful_to falling_only (placing North) 2 ≡ true
unfolding X.occurs C.raw_children D.applies
north = refl

south : is_lawful_to falling_only (placing South) 2 ≡ true
unfolding X.occurs C.raw_children D.applies
south = refl

east : is_lawful_to falling_only (placing East) 2 ≡ true
unfolding X.occurs C.raw_children D.applies
east = refl

west : is_lawful_to falling_only (placing West) 2 ≡ true
unfolding X.occurs C.raw_children D.applies
west = refl
