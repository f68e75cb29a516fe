-- The kinds that are tried on a tiling, computed.
use Rattle.std.specs.Prelude.{◌≡◌, [], ◌∷◌, refl, true}
use Rattle.patterns.specs.Occurs as X
use Rattle.rule_kinds.specs.Children as C
use Rattle.rule_kinds.specs.Conditions as D
use Rattle.rule_kinds.specs.Choices as H
use Rattle.rule_kinds.specs.declared.kind.Direction.TheVariants.{North, South, East, West}
use Rattle.rule_kinds.specs.declared.kind.Kind.TheVariants as kind
use Rattle.rule_kinds.specs.Choices.{kinds_of}
use Rattle.rule_kinds.proofs.Texts.{cell, dot, p01, p10, p021, pointing, no_letters}

-- by columns, first to the right
each_column : kinds_of (record { width = 2; height = 2; obstructions = dot 0 ∷ dot 11 ∷ p021 1 1 1 ∷ p021 10 10 10 ∷ []; requirements = [] }) (record no_letters { c = true })
    ≡ kind.Place (pointing (dot 1) 0 ∷ []) East ∷ kind.Place (pointing (dot 1) 0 ∷ []) West ∷ kind.Place (pointing (dot 10) 0 ∷ []) East ∷ kind.Place (pointing (dot 10) 0 ∷ []) West ∷ []
unfolding X.occurs C.raw_children D.applies H.kinds_of
each_column = refl

one_column : kinds_of (record { width = 1; height = 2; obstructions = p01 0 0 ∷ p01 1 1 ∷ []; requirements = [] }) (record no_letters { c = true })
    ≡ kind.Place (pointing (dot 0) 0 ∷ pointing (dot 1) 0 ∷ []) East ∷ kind.Place (pointing (dot 0) 0 ∷ pointing (dot 1) 0 ∷ []) West ∷ []
unfolding X.occurs C.raw_children D.applies H.kinds_of
one_column = refl

-- by lists of one pattern, each pointed at each place, in each direction
two_lists : kinds_of (record { width = 2; height = 1; obstructions = []; requirements = (dot 0 ∷ []) ∷ (dot 10 ∷ []) ∷ [] }) (record no_letters { p = true })
    ≡ kind.Place (pointing (dot 0) 0 ∷ []) North ∷ kind.Place (pointing (dot 0) 0 ∷ []) South ∷ kind.Place (pointing (dot 0) 0 ∷ []) East ∷ kind.Place (pointing (dot 0) 0 ∷ []) West ∷ kind.Place (pointing (dot 10) 0 ∷ []) North ∷ kind.Place (pointing (dot 10) 0 ∷ []) South ∷ kind.Place (pointing (dot 10) 0 ∷ []) East ∷ kind.Place (pointing (dot 10) 0 ∷ []) West ∷ []
unfolding X.occurs C.raw_children D.applies H.kinds_of
two_lists = refl

list_of_two_points : kinds_of (record { width = 1; height = 2; obstructions = []; requirements = (dot 0 ∷ []) ∷ (p01 1 1 ∷ []) ∷ [] }) (record no_letters { p = true })
    ≡ kind.Place (pointing (dot 0) 0 ∷ []) North ∷ kind.Place (pointing (dot 0) 0 ∷ []) South ∷ kind.Place (pointing (dot 0) 0 ∷ []) East ∷ kind.Place (pointing (dot 0) 0 ∷ []) West ∷ kind.Place (pointing (p01 1 1) 0 ∷ []) North ∷ kind.Place (pointing (p01 1 1) 0 ∷ []) South ∷ kind.Place (pointing (p01 1 1) 0 ∷ []) East ∷ kind.Place (pointing (p01 1 1) 0 ∷ []) West ∷ kind.Place (pointing (p01 1 1) 1 ∷ []) North ∷ kind.Place (pointing (p01 1 1) 1 ∷ []) South ∷ kind.Place (pointing (p01 1 1) 1 ∷ []) East ∷ kind.Place (pointing (p01 1 1) 1 ∷ []) West ∷ []
unfolding X.occurs C.raw_children D.applies H.kinds_of
list_of_two_points = refl

-- ---- cuts

-- of rows before those of columns
rows_first : kinds_of (record { width = 2; height = 2; obstructions = p01 0 10 ∷ p10 1 0 ∷ []; requirements = [] }) (record no_letters { s = true })
    ≡ kind.RowCut 0 (cell 10 ∷ []) ∷ kind.ColumnCut 0 (cell 0 ∷ []) ∷ []
unfolding X.occurs C.raw_children D.applies H.kinds_of
rows_first = refl

rows_first_again : kinds_of (record { width = 2; height = 2; obstructions = p01 0 1 ∷ p01 0 10 ∷ []; requirements = [] }) (record no_letters { r = true; c = true; s = true })
    ≡ kind.RowCut 0 (cell 10 ∷ []) ∷ kind.ColumnCut 0 (cell 1 ∷ []) ∷ []
unfolding X.occurs C.raw_children D.applies H.kinds_of
rows_first_again = refl

-- the least sets whose points come first
row_from_below : kinds_of (record { width = 3; height = 1; obstructions = p01 0 10 ∷ p10 0 20 ∷ p10 10 20 ∷ []; requirements = [] }) (record no_letters { s = true })
    ≡ kind.RowCut 0 (cell 0 ∷ cell 10 ∷ []) ∷ kind.RowCut 0 (cell 10 ∷ []) ∷ []
unfolding X.occurs C.raw_children D.applies H.kinds_of
row_from_below = refl

column_from_left : kinds_of (record { width = 1; height = 3; obstructions = p10 1 0 ∷ p10 2 0 ∷ p10 2 1 ∷ []; requirements = [] }) (record no_letters { s = true })
    ≡ kind.ColumnCut 0 (cell 0 ∷ []) ∷ kind.ColumnCut 0 (cell 0 ∷ cell 1 ∷ []) ∷ []
unfolding X.occurs C.raw_children D.applies H.kinds_of
column_from_left = refl

whole_row : kinds_of (record { width = 2; height = 1; obstructions = p01 0 0 ∷ p10 0 10 ∷ []; requirements = [] }) (record no_letters { s = true })
    ≡ kind.RowCut 0 (cell 0 ∷ []) ∷ []
unfolding X.occurs C.raw_children D.applies H.kinds_of
whole_row = refl
