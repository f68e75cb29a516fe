-- No flag but that of the slot is set, before it and after it.
use Rattle.std.proofs.Common.{refl, sym, ◌+◌}
use Rattle.std.proofs.lemmas.List.{take_rest}
use Rattle.css_domain.proofs.Slots.{none_but}
use Rattle.css_domain.proofs.shape.no_other_positive.Goals as goal

pub returns-then-none_positive : goal.returns-then-none_positive
returns-then-none_positive c =
    rw (none_but c.args.children.now c.args.slot c.requires, sym c.none_positive.ensures, c.if-none_positive.true, c.none_positive-then-none_positive.ensures, take_rest c.args.children.now (c.args.slot + 1)) refl

pub returns-else-none_positive : goal.returns-else-none_positive
returns-else-none_positive c = rw (none_but c.args.children.now c.args.slot c.requires, sym c.none_positive.ensures, c.if-none_positive.false) refl
