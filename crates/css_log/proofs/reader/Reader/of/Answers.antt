use Rattle.std.proofs.Common.{rules, sym, subst, false, ◌≡◌}
use Rattle.css_domain.specs.WholeRecords.{IsWhole}
use Rattle.css_domain.proofs.Whole.{whole_none}
use Rattle.css_log.specs.States.{reading}
use Rattle.css_log.specs.Told.{seated}
use Rattle.css_log.proofs.reader.Reader.of.Goals as goal

pub invariant_of-result : goal.invariant_of-result
invariant_of-result c = (
  subst (λ l. c.args.seat.me ≡ seated (reading c.args.seat.table_id l 0 false)) (sym c.new.ensures.items) c.requires.knows,
  search rules,
  search rules,
  subst IsWhole (sym c.new.ensures.items) whole_none,
)
