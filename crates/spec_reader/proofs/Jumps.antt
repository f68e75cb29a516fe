-- A line leads to the place that it says.
use Rattle.std.proofs.Common.{◌≡◌, Bool, true, false, ap, ◌∙◌}
use Rattle.std.specs.Prelude.{◌==◌, Some, None, if◌then◌else◌}
use Rattle.std.proofs.lemmas.Option.{none-some, same_Some}
use Rattle.spec_lines.specs.Forms.{Line}
use Rattle.spec_lines.specs.Forms.Line.{First, Basis, Root, Count, Entry, Grid, Obstructions, Requirements, Rule, Child, Terms, End}
use Rattle.spec_lines.specs.Follows.{Place, after, arity, entry_or_terms, child_or_next}
use Rattle.spec_lines.specs.Follows.Place.{AtFirst, AtBasis, AtRoot, AtCount, AtEntry, AtGrid, AtObstructions, AtRequirements, AtRule, AtChild, AtTerms, AtEnd, Done}
use Rattle.spec_reader.specs.declared.places.Jump.{Jump}
use Rattle.spec_reader.specs.Positions.{IsJumpOf, jumped}

if_there : {X : Type 0} (b : Bool) (x y : X) → (if b then Some x else None) ≡ Some y → x ≡ y
if_there true x y h = same_Some x y h
if_there false x y h = absurd (none-some y h)

pub jump_is : (p : Place) (l : Line) (j : Jump) (q : Place) → after p l ≡ Some q → IsJumpOf l j → jumped p j ≡ q
jump_is AtFirst First j q h says = same_Some AtBasis q h
jump_is AtBasis (Basis words) j q h says = same_Some AtRoot q h
jump_is AtRoot (Root trace) j q h says = same_Some AtCount q h
jump_is AtCount (Count n) j q h says = ap (jumped AtCount) says ∙ same_Some (entry_or_terms 0 n) q h
jump_is (AtEntry i left) (Entry number rank) j q h says = if_there (i == number) (AtGrid i left) q h
jump_is (AtGrid i left) (Grid width height) j q h says = same_Some (AtObstructions i left) q h
jump_is (AtObstructions i left) (Obstructions patterns) j q h says = same_Some (AtRequirements i left) q h
jump_is (AtRequirements i left) (Requirements lists) j q h says = same_Some (AtRule i left) q h
jump_is (AtRule i left) (Rule k) j q h says = ap (jumped (AtRule i left)) says ∙ same_Some (child_or_next i left (arity k)) q h
jump_is (AtChild i left more) (Child child trace) j q h says = same_Some (child_or_next i left more) q h
jump_is AtTerms (Terms terms) j q h says = same_Some AtEnd q h
jump_is AtEnd End j q h says = same_Some Done q h
jump_is p l j q h says = absurd (none-some q h)
