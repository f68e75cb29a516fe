use Rattle.std.proofs.Common.{sym, ap, subst}
use Rattle.css_domain.specs.Entries.{Entry}
use Rattle.css_prune.specs.Faults.{IsRepeated}
use Rattle.css_prune.proofs.FirstFaults.{not_both}
use Rattle.css_prune.proofs.faults.is_rule_right.Goals as goal

pub returns : goal.returns
returns g c =
    let class = ap (λ (e : Entry g.row.D-Class.Denot g.row.D-Rule.Denot). e.class) c.entry.view_is in (
      λ t.
          record {
            own = c.has_own_class.ensures.0 c.if-not-has_own_class.false;
            as_many = c.has_all_children.ensures.0 c.if-not-has_all_children.false;
            child = c.are_matched.ensures.0 c.if-not-are_matched.false;
            new = λ r. not_both c.is_repeated.result c.if-is_repeated.false (c.is_repeated.ensures.1 (subst (λ (k : g.row.D-Class.Denot). IsRepeated g.D.Domain.meaning c.args.entries.now c.args.place k) (sym class) r));
            called = c.is_first_or_called.ensures.0 t;
          },
      λ r. c.is_first_or_called.ensures.1 r.called,
    )
