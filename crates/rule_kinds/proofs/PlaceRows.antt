-- Raw children of placements, and where none applies, computed.
use Rattle.std.specs.Prelude.{◌≡◌, [], ◌∷◌, refl, false}
use Rattle.patterns.specs.Occurs as X
use Rattle.rule_kinds.specs.Children as C
use Rattle.rule_kinds.specs.Conditions as D
use Rattle.rule_kinds.specs.declared.kind.Direction.TheVariants.{North, East, West}
use Rattle.rule_kinds.specs.declared.kind.Kind.TheVariants as kind
use Rattle.rule_kinds.specs.Children.{raw_children}
use Rattle.rule_kinds.specs.Conditions.{applies}
use Rattle.rule_kinds.proofs.Texts.{dot, p01, p10, pointing}

-- each child forbids what lies farther of both patterns
two_north : raw_children (record { width = 2; height = 1; obstructions = []; requirements = [] }) (kind.Place (pointing (dot 0) 0 ∷ pointing (dot 10) 0 ∷ []) North)
    ≡ (record { width = 2; height = 1; obstructions = dot 0 ∷ dot 10 ∷ []; requirements = [] }) ∷ (record { width = 4; height = 3; obstructions = dot 1 ∷ dot 2 ∷ dot 10 ∷ dot 12 ∷ dot 21 ∷ dot 22 ∷ dot 31 ∷ dot 32 ∷ p01 11 11 ∷ p10 11 11 ∷ []; requirements = (dot 11 ∷ []) ∷ [] }) ∷ (record { width = 4; height = 3; obstructions = dot 1 ∷ dot 2 ∷ dot 11 ∷ dot 12 ∷ dot 20 ∷ dot 22 ∷ dot 31 ∷ dot 32 ∷ p01 21 21 ∷ p10 21 21 ∷ []; requirements = (dot 21 ∷ []) ∷ [] }) ∷ []
unfolding X.occurs C.raw_children D.applies
two_north = refl

two_east : raw_children (record { width = 1; height = 2; obstructions = []; requirements = [] }) (kind.Place (pointing (dot 0) 0 ∷ pointing (dot 1) 0 ∷ []) East)
    ≡ (record { width = 1; height = 2; obstructions = dot 0 ∷ dot 1 ∷ []; requirements = [] }) ∷ (record { width = 3; height = 4; obstructions = dot 1 ∷ dot 10 ∷ dot 12 ∷ dot 13 ∷ dot 20 ∷ dot 21 ∷ dot 22 ∷ dot 23 ∷ p01 11 11 ∷ p10 11 11 ∷ []; requirements = (dot 11 ∷ []) ∷ [] }) ∷ (record { width = 3; height = 4; obstructions = dot 2 ∷ dot 10 ∷ dot 11 ∷ dot 13 ∷ dot 20 ∷ dot 21 ∷ dot 22 ∷ dot 23 ∷ p01 12 12 ∷ p10 12 12 ∷ []; requirements = (dot 12 ∷ []) ∷ [] }) ∷ []
unfolding X.occurs C.raw_children D.applies
two_east = refl

two_west : raw_children (record { width = 1; height = 2; obstructions = []; requirements = [] }) (kind.Place (pointing (dot 0) 0 ∷ pointing (dot 1) 0 ∷ []) West)
    ≡ (record { width = 1; height = 2; obstructions = dot 0 ∷ dot 1 ∷ []; requirements = [] }) ∷ (record { width = 3; height = 4; obstructions = dot 0 ∷ dot 1 ∷ dot 2 ∷ dot 3 ∷ dot 10 ∷ dot 12 ∷ dot 13 ∷ dot 21 ∷ p01 11 11 ∷ p10 11 11 ∷ []; requirements = (dot 11 ∷ []) ∷ [] }) ∷ (record { width = 3; height = 4; obstructions = dot 0 ∷ dot 1 ∷ dot 2 ∷ dot 3 ∷ dot 10 ∷ dot 11 ∷ dot 13 ∷ dot 22 ∷ p01 12 12 ∷ p10 12 12 ∷ []; requirements = (dot 12 ∷ []) ∷ [] }) ∷ []
unfolding X.occurs C.raw_children D.applies
two_west = refl

-- ---- a pattern of two points

lower_north : raw_children (record { width = 1; height = 1; obstructions = []; requirements = [] }) (kind.Place (pointing (p10 0 0) 1 ∷ []) North)
    ≡ (record { width = 1; height = 1; obstructions = p10 0 0 ∷ []; requirements = [] }) ∷ (record { width = 3; height = 3; obstructions = dot 1 ∷ dot 10 ∷ dot 12 ∷ dot 21 ∷ p01 11 11 ∷ p10 2 2 ∷ p10 2 12 ∷ p10 2 22 ∷ p10 11 11 ∷ p10 12 12 ∷ p10 12 22 ∷ p10 22 22 ∷ []; requirements = (dot 11 ∷ []) ∷ (p10 1 11 ∷ p10 2 11 ∷ p10 11 11 ∷ p10 12 11 ∷ []) ∷ [] }) ∷ []
unfolding X.occurs C.raw_children D.applies
lower_north = refl

-- ---- where no placement applies

-- pointed cells of one row, placed along columns
row_east : applies (record { width = 2; height = 1; obstructions = []; requirements = [] }) (kind.Place (pointing (dot 0) 0 ∷ pointing (dot 10) 0 ∷ []) East) ≡ false
unfolding X.occurs C.raw_children D.applies
row_east = refl

row_west : applies (record { width = 2; height = 1; obstructions = []; requirements = [] }) (kind.Place (pointing (dot 0) 0 ∷ pointing (dot 10) 0 ∷ []) West) ≡ false
unfolding X.occurs C.raw_children D.applies
row_west = refl

-- a grid of more than six columns or rows
seven_columns : applies (record { width = 7; height = 1; obstructions = []; requirements = [] }) (kind.Place (pointing (dot 0) 0 ∷ []) North) ≡ false
unfolding X.occurs C.raw_children D.applies
seven_columns = refl

seven_rows : applies (record { width = 1; height = 7; obstructions = []; requirements = [] }) (kind.Place (pointing (dot 3) 0 ∷ []) East) ≡ false
unfolding X.occurs C.raw_children D.applies
seven_rows = refl
