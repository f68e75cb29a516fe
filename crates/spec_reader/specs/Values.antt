-- The lines that are read.
use Rattle.std.specs.Prelude.{◌≡◌, true, false, Some, None, Result, Ok, Err, is_some, ⊤}
use Rattle.spec_lines.specs.Lines.{Text}
use Rattle.spec_lines.specs.Forms.{Line}
use Rattle.spec_lines.specs.Forms.Line.{First as LineFirst, Basis as LineBasis, Root as LineRoot, Count as LineCount, Entry as LineEntry, Grid as LineGrid, Obstructions as LineObstructions, Requirements as LineRequirements, Rule as LineRule, Child as LineChild, Terms as LineTerms, End as LineEnd}
use Rattle.spec_lines.specs.Follows.{Place, after}
use Rattle.spec_lines.specs.Readings.{line_at}
use Rattle.spec_lines.specs.Machine.{step}
use Rattle.spec_lines.specs.Ranges.{is_in_range}
use Rattle.line_readers.specs.Answers.{nothing_else}
use Rattle.line_readers.specs.declared.fault.ItemFault.{ItemFault}
use Rattle.line_readers.specs.declared.fault.ItemFault.TheVariants as item
use Rattle.spec_reader.specs.Positions.{IsJumpOf}
use Rattle.spec_reader.specs.declared.places.Jump.{Jump}
use Rattle.spec_reader.specs.declared.values.LineFault.{LineFault}
use Rattle.spec_reader.specs.declared.values.LineFault.TheVariants.{Form, Memory}
use Rattle.spec_reader.specs.declared.values.LineValue.{LineValue}
use Rattle.spec_reader.specs.declared.values.LineValue.TheVariants.{First, Basis, Root, Count, Entry, Grid, Obstructions, Requirements, Rule, Child, Terms, End}
use Rattle.spec_reader.specs.declared.values.LineRead.{LineRead}
use Rattle.spec_reader.specs.declared.values.LineRead.TheVariants.{InRange, Beyond}

-- the line of a value
abbrev pub value_of : LineValue → Line
value_of First = LineFirst
value_of (Basis words) = LineBasis words
value_of (Root trace) = LineRoot trace
value_of (Count entries) = LineCount entries
value_of (Entry number rank) = LineEntry number rank
value_of (Grid width height) = LineGrid width height
value_of (Obstructions patterns) = LineObstructions patterns
value_of (Requirements lists) = LineRequirements lists
value_of (Rule k) = LineRule k
value_of (Child child trace) = LineChild child trace
value_of (Terms terms) = LineTerms terms
value_of End = LineEnd

-- the line has this value, which leads on from the place and is in range alone
abbrev pub HasValue : Place → Text → LineValue → Type 0
HasValue p t v = (line_at p t ≡ Some (value_of v)) × (is_in_range nothing_else (value_of v) ≡ true) × (is_some (after p (value_of v)) ≡ true)

-- the line has a value that leads on from the place, is out of range alone, and says so much of the lines after it
abbrev pub IsBeyond : Place → Text → Jump → Type 0
IsBeyond p t j = (l : Line) × (line_at p t ≡ Some l) × (is_in_range nothing_else l ≡ false) × (is_some (after p l) ≡ true) × IsJumpOf l j

abbrev pub IsRead : Place → Text → LineRead → Type 0
IsRead p t (InRange v) = HasValue p t v
IsRead p t (Beyond j) = IsBeyond p t j

-- what is answered for a line that is to stand at a place
abbrev pub IsReading : Place → Text → Result LineRead LineFault → Type 0
IsReading p t (Ok r) = IsRead p t r
IsReading p t (Err Form) = step p t ≡ None
IsReading p t (Err Memory) = ⊤

-- what is answered where a line gave no value, and says so much of the lines after it
abbrev pub read_without : ItemFault → Jump → Result LineRead LineFault
read_without item.Form j = Err Form
read_without item.Range j = Ok (Beyond j)
read_without item.Memory j = Err Memory
