use Rattle.std.proofs.Common.{◌≡◌, ◌+◌, rules, refl, sym, ap, ◌∙◌}
use Rattle.spec_reader.specs.Drafts.{taken, is_child}
use Rattle.spec_reader.proofs.Takings.{goes}
use Rattle.spec_reader.proofs.reader.Reading.build.Goals as goal

pub returns-clause-ok : goal.returns-clause-ok
returns-clause-ok c =
    let drafted : c.take.new.self ≡ taken c.args.value c.leads_to_child-goes_on.result c.args.self.now.draft = search rules in
    goes c.args.self.now (record { position = c.move_on.new.self; lines = c.args.self.now.lines + 1; limit = c.args.self.now.limit; draft = c.take.new.self }) c.args.value c.jump-jump.result
    c.requires.kept c.requires.value c.requires.none c.requires.range c.jump-jump.ensures c.move_on.ensures.place c.move_on.ensures.placed c.move_on.ensures.number refl refl
    (drafted ∙ ap (λ g. taken c.args.value g c.args.self.now.draft) (c.leads_to_child-goes_on.ensures ∙ ap is_child (sym c.move_on.ensures.place)))
