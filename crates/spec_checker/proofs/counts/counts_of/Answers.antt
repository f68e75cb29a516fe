use Rattle.std.proofs.Common.{◌-◌, List, subst, ◌∙◌}
use Rattle.std.proofs.lemmas.Result.{IfOk-weaker}
use Rattle.css_terms.specs.Rows.{AreTermsOf}
use Rattle.css_terms.specs.declared.rows.Row.{Row}
use Rattle.spec_checker.proofs.Counted.{from_rows}
use Rattle.spec_checker.proofs.Joined.{as_many_each}
use Rattle.spec_checker.proofs.counts.counts_of.Goals as goal

pub rows_of-requires-after_bounds : goal.rows_of-requires-after_bounds
rows_of-requires-after_bounds c = λ κs. as_many_each c.args.entries.now c.requires.joined

pub returns : goal.returns
returns c =
    IfOk-weaker c.terms_of_rows.result _ _
    (λ terms h. from_rows c.args.entries.now c.args.many terms.items c.specs_have_rows.ensures c.requires.spec c.requires.hold c.requires.some
    (subst (λ (rows : List Row). AreTermsOf rows (c.args.many - 1) terms.items) (c.as_slice.ensures.value ∙ c.in_ok-rows.ensures) h))
    c.terms_of_rows.ensures.terms
