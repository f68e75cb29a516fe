use Rattle.std.proofs.Common.{sym, ap, ◌∙◌}
use Rattle.css_domain.specs.Entries.{Entry}
use Rattle.css_prune.proofs.faults.has_own_class.Goals as goal

pub returns : goal.returns
returns g c =
    let rule = ap (λ (e : Entry g.row.D-Class.Denot g.row.D-Rule.Denot). g.D.Domain.meaning.parent e.rule) c.entry.view_is in
    let class = ap (λ (e : Entry g.row.D-Class.Denot g.row.D-Rule.Denot). e.class) c.entry.view_is in
    (λ t. sym rule ∙ sym c.parent.ensures ∙ c.is_same.ensures.0 t ∙ class, λ h. c.is_same.ensures.1 (c.parent.ensures ∙ rule ∙ h ∙ sym class))
