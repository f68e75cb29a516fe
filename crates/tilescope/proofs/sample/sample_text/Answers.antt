use Rattle.std.proofs.Common.{List, ℕ, ◌∙◌, subst}
use Rattle.tilescope.specs.Samples.{AreSearchLines}
use Rattle.tilescope.proofs.sample.sample_text.Goals as goal

pub returns : goal.returns
returns c = record {
  successes = c.in_ok-found.field-0.found;
  lines = c.in_ok-found.field-0.text.items;
  searches = subst (λ (bases : List (List (List ℕ))). AreSearchLines bases c.in_ok-found.field-0.found c.in_ok-found.field-0.text.items) (c.as_slice.ensures.value ∙ c.in_ok-bases.ensures) c.in_ok-found.ensures;
  are = c.in_ok-put_total.ensures;
}
