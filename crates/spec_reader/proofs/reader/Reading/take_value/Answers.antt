use Rattle.std.proofs.Common.{sym, ap, ◌∙◌, true≢false}
use Rattle.std.specs.Prelude.{not, is_some}
use Rattle.spec_reader.proofs.Takings.{passes}
use Rattle.spec_reader.proofs.reader.Reading.take_value.Goals.{else-is_none-via-then-is_none+else-allows, else-is_none-via-else-is_none}
use Rattle.spec_reader.proofs.reader.Reading.take_value.Goals as goal

pub returns-clause-ok : goal.returns-clause-ok
returns-clause-ok c = (
  c.pass.ensures.kept,
  passes _ _ _ c.jump.result c.requires.value.leads c.jump.ensures c.pass.ensures.place c.pass.ensures.lines c.pass.ensures.limit
      (λ none. elim c.else-is_none.branch [
        | else-is_none-via-then-is_none+else-allows w ↦ sym w.allows.ensures ∙ w.if-allows.false
        | else-is_none-via-else-is_none w ↦ absurd (true≢false (sym (ap not w.if-is_none.false) ∙ sym c.is_none.ensures ∙ ap is_some none))
      ]),
)
