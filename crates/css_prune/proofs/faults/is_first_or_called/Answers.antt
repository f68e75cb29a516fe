use Rattle.std.proofs.Common.{refl, arith}
use Rattle.css_prune.proofs.faults.is_first_or_called.Goals as goal

pub returns-then-place-eq0 : goal.returns-then-place-eq0
returns-then-place-eq0 g c = (λ t more. absurd (omega (arith, more, c.if-place-eq0.true)), λ f. refl)

pub returns : goal.returns
returns g c = (λ t more. c.is_called.ensures.0 t, λ f. c.is_called.ensures.1 (f (omega (arith, c.if-place-eq0.false))))
