use Rattle.std.proofs.Common.{sym, ◌∙◌}
use Rattle.css_terms.proofs.Caps.{exact_by_big, big_by_exact, big_by_big}
use Rattle.css_terms.proofs.term.Term.times.Goals as goal

pub returns-in-Exact-Big : goal.returns-in-Exact-Big
returns-in-Exact-Big c = record { capped = λ a b h k. c.big_times.ensures ∙ exact_by_big _ a b (sym c.in-Exact-Big.is-0 ∙ h) (sym c.in-Exact-Big.is-1 ∙ k) }

pub returns-in-Big-Exact : goal.returns-in-Big-Exact
returns-in-Big-Exact c = record { capped = λ a b h k. c.big_times-in-Big-Exact.ensures ∙ big_by_exact _ a b (sym c.in-Big-Exact.is-0 ∙ h) (sym c.in-Big-Exact.is-1 ∙ k) }

pub returns-in-Big-Big : goal.returns-in-Big-Big
returns-in-Big-Big c = record { capped = λ a b h k. big_by_big a b (sym c.in-Big-Big.is-0 ∙ h) (sym c.in-Big-Big.is-1 ∙ k) }
