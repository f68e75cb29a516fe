-- The place in a text, as the reader keeps it.
use Rattle.std.specs.Prelude.{◌≡◌, ◌-◌, ◌<◌, ℕ, suc, ⊤}
use Rattle.spec_lines.specs.Forms.{Line}
use Rattle.spec_lines.specs.Forms.Line.{Count as LineCount, Rule as LineRule}
use Rattle.spec_lines.specs.Follows.{Place, arity, entry_or_terms, child_or_next}
use Rattle.spec_lines.specs.Follows.Place.{AtFirst, AtBasis, AtRoot, AtCount, AtEntry, AtGrid, AtObstructions, AtRequirements, AtRule, AtChild, AtTerms, AtEnd, Done as AllDone}
use Rattle.spec_reader.specs.declared.places.Stage.{Stage}
use Rattle.spec_reader.specs.declared.places.Stage.TheVariants.{First, Basis, Root, Count, Entry, Grid, Obstructions, Requirements, Rule, Child, Terms, End, Done}
use Rattle.spec_reader.specs.declared.places.Position.{Position}
use Rattle.spec_reader.specs.declared.places.Jump.{Jump}
use Rattle.spec_reader.specs.declared.places.Jump.TheVariants.{Entries, Children}

-- the place before a line of the kind, of the entry of this number, after which so many come, and so many children after one
abbrev pub place_at : Stage → ℕ → ℕ → ℕ → Place
place_at First number left more = AtFirst
place_at Basis number left more = AtBasis
place_at Root number left more = AtRoot
place_at Count number left more = AtCount
place_at Entry number left more = AtEntry number left
place_at Grid number left more = AtGrid number left
place_at Obstructions number left more = AtObstructions number left
place_at Requirements number left more = AtRequirements number left
place_at Rule number left more = AtRule number left
place_at Child number left more = AtChild number left more
place_at Terms number left more = AtTerms
place_at End number left more = AtEnd
place_at Done number left more = AllDone

abbrev pub place_of : Position → Place
place_of p = place_at p.stage p.number (p.entries - suc p.number) p.more

abbrev pub is_within : Stage → ℕ → ℕ → Type 0
is_within Entry number entries = number < entries
is_within Grid number entries = number < entries
is_within Obstructions number entries = number < entries
is_within Requirements number entries = number < entries
is_within Rule number entries = number < entries
is_within Child number entries = number < entries
is_within _ number entries = ⊤

-- an entry that is to come or has begun is one of those that the text has
abbrev pub IsPlaced : Position → Type 0
IsPlaced p = is_within p.stage p.number p.entries

-- the jump tells what the line says of the lines after it
abbrev pub IsJumpOf : Line → Jump → Type 0
IsJumpOf (LineCount n) j = j ≡ Entries n
IsJumpOf (LineRule k) j = j ≡ Children (arity k)
IsJumpOf _ j = ⊤

-- the place after a line that stands at a place and says so much of the lines after it
abbrev pub jumped : Place → Jump → Place
jumped AtFirst j = AtBasis
jumped AtBasis j = AtRoot
jumped AtRoot j = AtCount
jumped AtCount (Entries n) = entry_or_terms 0 n
jumped (AtEntry i left) j = AtGrid i left
jumped (AtGrid i left) j = AtObstructions i left
jumped (AtObstructions i left) j = AtRequirements i left
jumped (AtRequirements i left) j = AtRule i left
jumped (AtRule i left) (Children c) = child_or_next i left c
jumped (AtChild i left more) j = child_or_next i left more
jumped AtTerms j = AtEnd
jumped _ _ = AllDone
