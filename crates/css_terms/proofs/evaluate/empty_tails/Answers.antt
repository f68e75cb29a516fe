-- Each row has no terms yet.
use Rattle.std.proofs.Common.{◌≡◌, length, ap, ◌∙◌, arith}
use Rattle.std.proofs.lemmas.List.{length-map}
use Rattle.css_terms.specs.Series.{items_of}
use Rattle.css_terms.proofs.evaluate.empty_tails.Goals as goal

pub returns : goal.returns
returns c =
    let full : c.loop-row.row-index ≡ length c.args.rows.now = omega (arith, c.loop-row-test.false, c.loop-row.auto.row-index-end) in
    record {
      as_many = length-map c.loop-row.tails.items (λ v. items_of v.items) ∙ c.loop-row.invariant.0 ∙ full;
      each = λ d row at. record { long = λ p. ap length (c.loop-row.invariant.1 d); shown = λ count counts p back small m less. absurd (omega (arith, less)) };
    }
