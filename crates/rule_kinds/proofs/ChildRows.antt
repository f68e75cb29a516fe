-- Raw children and where kinds apply, computed.
use Rattle.std.specs.Prelude.{◌≡◌, [], ◌∷◌, refl, true, false}
use Rattle.patterns.specs.Occurs as X
use Rattle.rule_kinds.specs.Children as C
use Rattle.rule_kinds.specs.Conditions as D
use Rattle.rule_kinds.specs.Choices as H
use Rattle.rule_kinds.specs.declared.kind.Kind.TheVariants as kind
use Rattle.rule_kinds.specs.Children.{raw_children}
use Rattle.rule_kinds.specs.Conditions.{applies}
use Rattle.rule_kinds.specs.Choices.{Packs, kinds_of}
use Rattle.rule_kinds.proofs.Texts.{cell, dot, p021, no_letters}
use Rattle.rule_kinds.proofs.Entries.{entry0, entry1, entry2, entry3, entry4, entry5, kind2, kind5}

insert_row : raw_children entry0 (kind.Insert (dot 0)) ≡ (record entry0 { obstructions = dot 0 ∷ p021 0 0 0 ∷ [] }) ∷ (record entry0 { requirements = (dot 0 ∷ []) ∷ [] }) ∷ []
unfolding X.occurs C.raw_children D.applies
insert_row = refl

unit_refused : applies entry0 kind.Unit ≡ false
unfolding X.occurs C.raw_children D.applies
unit_refused = refl

factor2_applies : applies entry2 kind2 ≡ true
unfolding X.occurs C.raw_children D.applies
factor2_applies = refl

-- a factor may not share a row with another
factor3_refused : applies entry3 (kind.Factor ((cell 0 ∷ []) ∷ (cell 10 ∷ []) ∷ [])) ≡ false
unfolding X.occurs C.raw_children D.applies
factor3_refused = refl

factor5_0 : raw_children entry5 kind5 ≡ (record entry5 { obstructions = dot 0 ∷ dot 10 ∷ dot 11 ∷ p021 1 1 1 ∷ [] }) ∷ (record entry5 { obstructions = dot 0 ∷ dot 1 ∷ dot 11 ∷ p021 10 10 10 ∷ [] }) ∷ []
unfolding X.occurs C.raw_children D.applies
factor5_0 = refl

-- ---- the kinds of a class
abbrev pub rsf : Packs
rsf = record no_letters { r = true; s = true; f = true }

abbrev pub i_only : Packs
i_only = record no_letters { i = true }

at_1 : kinds_of entry1 rsf ≡ kind.Unit ∷ []
unfolding X.occurs C.raw_children D.applies H.kinds_of
at_1 = refl

at_4 : kinds_of entry4 rsf ≡ kind.Point ∷ []
unfolding X.occurs C.raw_children D.applies H.kinds_of
at_4 = refl

at_2 : kinds_of entry2 rsf ≡ kind2 ∷ []
unfolding X.occurs C.raw_children D.applies H.kinds_of
at_2 = refl

at_5 : kinds_of entry5 rsf ≡ kind5 ∷ []
unfolding X.occurs C.raw_children D.applies H.kinds_of
at_5 = refl

at_0_inserting : kinds_of entry0 i_only ≡ kind.Insert (dot 0) ∷ []
unfolding X.occurs C.raw_children D.applies H.kinds_of
at_0_inserting = refl
