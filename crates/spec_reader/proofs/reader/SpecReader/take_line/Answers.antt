use Rattle.std.proofs.Common.{rules, sym, subst}
use Rattle.spec_reader.specs.Positions.{place_of}
use Rattle.spec_reader.specs.States.{Advances, state_of}
use Rattle.spec_reader.specs.Values.{value_of, IsRead}
use Rattle.spec_reader.specs.Walks.{HasRead}
use Rattle.spec_reader.proofs.Takings.{may_take, passes_beyond, read_further}
use Rattle.spec_reader.proofs.reader.SpecReader.take_line.Goals as goal

pub take_value-requires-clause-value : goal.take_value-requires-clause-value
take_value-requires-clause-value c =
    let r = c.self.inside.reading in
    may_take r c.args.line.now c.in-InRange.value (subst (IsRead (place_of r.position) c.args.line.now) c.in-InRange.is c.in_ok-jump.ensures)

pub returns-in-Beyond-clause-taken : goal.returns-in-Beyond-clause-taken
returns-in-Beyond-clause-taken c =
    let r = c.self.inside.reading in
    λ lines h.
    passes_beyond r c.pass.new.self c.args.line.now c.in-Beyond.jump c.self.invariant (subst (IsRead (place_of r.position) c.args.line.now) c.in-Beyond.is c.in_ok-jump.ensures)
    c.pass.ensures.place c.pass.ensures.lines c.pass.ensures.limit lines (subst (HasRead lines) (sym c.self.view_is) h)

pub returns-in-Ok-clause-taken : goal.returns-in-Ok-clause-taken
returns-in-Ok-clause-taken c =
    let r = c.self.inside.reading in
    let v = c.in-InRange.value in
    let read = subst (IsRead (place_of r.position) c.args.line.now) c.in-InRange.is c.in_ok-jump.ensures in
    let taken : Advances (state_of r) (value_of v) (state_of c.take_value.new.self) = search rules in
    λ lines h.
    read_further (state_of r) (state_of c.take_value.new.self) c.args.line.now (value_of v) read.0 taken lines (subst (HasRead lines) (sym c.self.view_is) h)
