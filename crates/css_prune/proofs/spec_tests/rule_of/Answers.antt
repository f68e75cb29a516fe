-- A sum of nothing is nothing.
use Rattle.std.proofs.Common.{ℕ, [], ◌∷◌, sym, ◌∙◌}
use Rattle.std.proofs.lemmas.List.Sums.{sum_by-cons}
use Rattle.css_prune.proofs.spec_tests.rule_of.Goals as goal

pub returns-then-union-clause-holds : goal.returns-then-union-clause-holds
returns-then-union-clause-holds c = λ n. sym (sum_by-cons (λ (f : ℕ → ℕ). f n) (λ m. 0) ((λ m. 0) ∷ []) ∙ sum_by-cons (λ (f : ℕ → ℕ). f n) (λ m. 0) [])
