use Rattle.std.proofs.Common.{sym, subst, suc, ◌-◌}
use Rattle.spec_reader.specs.Positions.{place_at}
use Rattle.spec_reader.specs.Values.{IsReading}
use Rattle.spec_reader.proofs.reading.read_line.Goals as goal

pub returns-in-Entry : goal.returns-in-Entry
returns-in-Entry c =
    let p = c.args.position.now in
    subst (λ s. IsReading (place_at s p.number (p.entries - suc p.number) p.more) c.args.line.now c.read_entry.result) (sym c.in-Entry.is) (c.read_entry.ensures (p.entries - suc p.number))

pub returns-in-Grid : goal.returns-in-Grid
returns-in-Grid c =
    let p = c.args.position.now in
    subst (λ s. IsReading (place_at s p.number (p.entries - suc p.number) p.more) c.args.line.now c.read_grid.result) (sym c.in-Grid.is) (c.read_grid.ensures p.number (p.entries - suc p.number))

pub returns-in-Obstructions : goal.returns-in-Obstructions
returns-in-Obstructions c =
    let p = c.args.position.now in
    subst (λ s. IsReading (place_at s p.number (p.entries - suc p.number) p.more) c.args.line.now c.read_obstructions.result) (sym c.in-Obstructions.is) (c.read_obstructions.ensures p.number (p.entries - suc p.number))

pub returns-in-Requirements : goal.returns-in-Requirements
returns-in-Requirements c =
    let p = c.args.position.now in
    subst (λ s. IsReading (place_at s p.number (p.entries - suc p.number) p.more) c.args.line.now c.read_requirements.result) (sym c.in-Requirements.is) (c.read_requirements.ensures p.number (p.entries - suc p.number))

pub returns-in-Rule : goal.returns-in-Rule
returns-in-Rule c =
    let p = c.args.position.now in
    subst (λ s. IsReading (place_at s p.number (p.entries - suc p.number) p.more) c.args.line.now c.read_rule.result) (sym c.in-Rule.is) (c.read_rule.ensures p.number (p.entries - suc p.number))

pub returns-in-Child : goal.returns-in-Child
returns-in-Child c =
    let p = c.args.position.now in
    subst (λ s. IsReading (place_at s p.number (p.entries - suc p.number) p.more) c.args.line.now c.read_child.result) (sym c.in-Child.is) (c.read_child.ensures p.number (p.entries - suc p.number) p.more)
