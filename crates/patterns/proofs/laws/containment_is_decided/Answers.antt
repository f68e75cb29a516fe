use Rattle.std.specs.Prelude.{ℕ, true, ◌==◌}
use Rattle.std.specs.List.{zip}
use Rattle.patterns.proofs.Occurrences.{occurs_decides}
use Rattle.patterns.proofs.laws.containment_is_decided.Goals as goal

pub returns : goal.returns
returns c = record {
  letters = λ w p. occurs_decides (λ l. l) (λ _ _. true) w p;
  cells = λ w w_cells p p_cells. occurs_decides (λ (x : ℕ × ℕ). x.0) (λ x a. x.1 == a.1) (zip w w_cells) (zip p p_cells);
}
