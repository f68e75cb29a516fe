-- A specification of the permutations that avoid 021: its classes, and the kinds of their rules.
use Rattle.std.specs.Prelude.{[], ◌∷◌}
use Rattle.tiling_core.specs.Tiles.{Tiles}
use Rattle.rule_kinds.specs.declared.kind.Direction.TheVariants.{North}
use Rattle.rule_kinds.specs.declared.kind.Kind.{Kind}
use Rattle.rule_kinds.specs.declared.kind.Kind.TheVariants.{Place, RowCut, Factor}
use Rattle.rule_kinds.proofs.Texts.{cell, dot, p01, p10, p021}

abbrev pub entry0 : Tiles
entry0 = record { width = 1; height = 1; obstructions = p021 0 0 0 ∷ []; requirements = [] }

abbrev pub entry1 : Tiles
entry1 = record { width = 0; height = 0; obstructions = []; requirements = [] }

abbrev pub entry2 : Tiles
entry2 = record { width = 3; height = 2; obstructions = dot 1 ∷ dot 10 ∷ dot 21 ∷ p01 0 20 ∷ p01 11 11 ∷ p10 11 11 ∷ p021 0 0 0 ∷ p021 20 20 20 ∷ []; requirements = (dot 11 ∷ []) ∷ [] }

abbrev pub entry3 : Tiles
entry3 = record { width = 2; height = 1; obstructions = p01 0 10 ∷ p021 0 0 0 ∷ p021 10 10 10 ∷ []; requirements = [] }

abbrev pub entry4 : Tiles
entry4 = record { width = 1; height = 1; obstructions = p01 0 0 ∷ p10 0 0 ∷ []; requirements = (dot 0 ∷ []) ∷ [] }

abbrev pub entry5 : Tiles
entry5 = record { width = 2; height = 2; obstructions = dot 0 ∷ dot 11 ∷ p021 1 1 1 ∷ p021 10 10 10 ∷ []; requirements = [] }

abbrev pub kind0 : Kind
kind0 = Place (record { pattern = dot 0; index = 0 } ∷ []) North

abbrev pub kind2 : Kind
kind2 = Factor ((cell 0 ∷ cell 20 ∷ []) ∷ (cell 11 ∷ []) ∷ [])

abbrev pub kind3 : Kind
kind3 = RowCut 0 (cell 10 ∷ [])

abbrev pub kind5 : Kind
kind5 = Factor ((cell 1 ∷ []) ∷ (cell 10 ∷ []) ∷ [])
