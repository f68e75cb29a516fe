use Rattle.css_terms.proofs.SpecRows.{specs_have_rows}
use Rattle.css_terms.proofs.laws.specs_have_rows.Goals as goal

pub returns : goal.returns
returns g c = specs_have_rows g.D.Domain.meaning c.counts_are_determined.ensures.classes
